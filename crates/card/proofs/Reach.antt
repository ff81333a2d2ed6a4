-- The share symbols of codewords for a group fill every d-tuple.
-- Assumes nothing.
use mathlib.Core.Path.{◌≡◌, refl, sym, ◌∙◌, ap, ap₂, subst, fun_ext}
use Prim.Native.Nat.{ℕ, ◌-◌, ◌*◌, ◌/◌, ◌%◌, ◌^◌, ◌≤◌, ◌<◌}
use native.Mathlib.Nat.{mod-lt, div-add-mod, div-lt_iff_lt-mul}
use native.Mathlib.Decide.{ℕ_discrete}
use native.Mathlib.Omega.{arith}
use lib.Arith.{digits_div, digits_mod}
use lib.Dec.{eqb}
use Rattle.algebra.specs.Sum.{sum, pow}
use Rattle.algebra.specs.Lagrange.{check, solve}
use Rattle.algebra.specs.Erasure.{choose, zeros, Places, recover}
use Rattle.algebra.specs.Shape.{Shape, Fits}
use Rattle.algebra.specs.Points.{point, rack_point, place, rack_sum, rack_check}
use Rattle.algebra.specs.Layers.{digit, group_of, layer_of}
use Rattle.algebra.specs.Group.{skip}
use Rattle.algebra.specs.Cabinet.{layer_point, Codeword, group_sum, share_symbol, Helping}
use Rattle.algebra.proofs.Ring.{ring, zero_add, add_neg, mul_zero, one_mul}
use Rattle.algebra.proofs.Sum.{sum_congr, sum_add, sum_neg, sum_swap, sum_single, sum_is_zero, sum_mul_left}
use Rattle.algebra.proofs.Pow.{pow_zero}
use Rattle.algebra.proofs.Lagrange.{meets}
use Rattle.algebra.proofs.Erasure.{fill_outside, recovered}
use Rattle.algebra.proofs.Points.{racks_distinct, rack_check_lem, places_distinct}
use Rattle.algebra.proofs.Layers.{digit_below, layer_digit, layer_other, layer_group, layer_back}
use Rattle.algebra.proofs.Skip.{skip_other, skip_below, skip_apart}
use Rattle.algebra.proofs.Cabinet.{choose_same, choose_other, group_sum_lem, witness, solved}

module _ {A : Type 0} (sh : Shape A) (fits : Fits sh) where
  open sh use {ops as o, racks as B, size as u, digits as s}
  open fits use {laws as L, some_places, some_digits as pos}
  open sh.ops use {add as ◌⊕◌, mul as ◌⊗◌, neg, zero as 𝟘}

  infixl 60 ◌⊕◌
  infixl 70 ◌⊗◌
  -- the check t = u·w by the rack sums ρ
  plain : (ℕ → ℕ) → (ℕ → A) → ℕ → A
  plain a ρ w = sum o B (λ i. pow o (rack_point sh a i) w ⊗ ρ i)

  rack_plain : (a : ℕ → ℕ) (ρ : ℕ → A) (w : ℕ) → rack_check sh a 0 ρ w ≡ plain a ρ w
  unfolding rack_check check plain
  rack_plain a ρ w = sum_congr o B _ _ (λ i l. ap (λ y. pow o (rack_point sh a i) w ⊗ y) (ap (λ y. y ⊗ ρ i) (pow_zero o _) ∙ one_mul o L (ρ i)))

  plain_congr : (a : ℕ → ℕ) (ρ σ : ℕ → A) (w : ℕ) → ((i : ℕ) → i < B → ρ i ≡ σ i) → plain a ρ w ≡ plain a σ w
  unfolding plain
  plain_congr a ρ σ w e = sum_congr o B _ _ (λ i l. ap (λ y. pow o (rack_point sh a i) w ⊗ y) (e i l))

  plain_add : (a : ℕ → ℕ) (ρ σ : ℕ → A) (w : ℕ) → plain a (λ i. ρ i ⊕ σ i) w ≡ plain a ρ w ⊕ plain a σ w
  unfolding plain
  plain_add a ρ σ w = sum_congr o B _ _ (λ i l. L.mul_add _ (ρ i) (σ i)) ∙ sum_add o L B _ _

  plain_zero : (a : ℕ → ℕ) (ρ : ℕ → A) (w : ℕ) → ((i : ℕ) → ρ i ≡ 𝟘) → plain a ρ w ≡ 𝟘
  unfolding plain
  plain_zero a ρ w e = sum_is_zero o L B _ (λ i l. ap (λ y. pow o (rack_point sh a i) w ⊗ y) (e i) ∙ mul_zero o L _)

  -- symbols with the rack sums ρ i j, whose weighted sums are zero
  pub lift : (ℕ → ℕ → A) → ℕ → ℕ → A
  lift ρ x j = solve o (place sh) u (λ m. choose (eqb m 0) (ρ (x / u) j) 𝟘) (x % u)

  lift_sum : (ρ : ℕ → ℕ → A) (j i m : ℕ) → m < u → rack_sum sh (λ x. lift ρ x j) m i ≡ choose (eqb m 0) (ρ i j) 𝟘
  unfolding rack_sum lift check
  lift_sum ρ j i m l =
      sum_congr o u _ _ (λ g k. ap₂ (λ a b. pow o (place sh g) m ⊗ solve o (place sh) u (λ m. choose (eqb m 0) (ρ a j) 𝟘) b) (digits_div i k) (digits_mod i k))
      ∙ meets o L (place sh) u (places_distinct sh fits) (λ m. choose (eqb m 0) (ρ i j) 𝟘) m l

  lift_plain : (ρ : ℕ → ℕ → A) (j i : ℕ) → rack_sum sh (λ x. lift ρ x j) 0 i ≡ ρ i j
  lift_plain ρ j i = lift_sum ρ j i 0 some_places ∙ choose_same 0 0 _ _ refl

  -- rack sums that meet the checks t = u·w of every layer are those of a codeword
  lift_codeword : (ρ : ℕ → ℕ → A) (R r : ℕ) → r ≤ R * u → ((j w : ℕ) → j < s ^ B → w < R → plain (digit s j) (λ i. ρ i j) w ≡ 𝟘) → Codeword sh r (lift ρ)
  unfolding layer_point
  lift_codeword ρ R r room good = record {
    at = λ j t hj ht.
        ap (check o (layer_point sh j) (B * u) (λ x. lift ρ x j)) (sym (div-add-mod t u))
        ∙ rack_check_lem sh fits (digit s j) (λ x. lift ρ x j) (t / u) (t % u)
        ∙ go j (t / u) (t % u) hj ((div-lt_iff_lt-mul some_places).1 (omega arith)) (mod-lt t some_places) (ℕ_discrete (t % u) 0);
  }
    where
      go : (j w m : ℕ) → j < s ^ B → w < R → m < u → Dec (m ≡ 0) → rack_check sh (digit s j) m (rack_sum sh (λ x. lift ρ x j) m) w ≡ 𝟘
      go j w m hj hw hm (yes e) =
          ap (λ m. rack_check sh (digit s j) m (rack_sum sh (λ x. lift ρ x j) m) w) e
          ∙ rack_plain (digit s j) _ w ∙ plain_congr (digit s j) _ _ w (λ i l. lift_plain ρ j i) ∙ good j w hj hw
      go j w m hj hw hm (no d) = unfold rack_check check in
          sum_is_zero o L B _ (λ i l. ap (λ y. pow o (rack_point sh (digit s j) i) w ⊗ (pow o (point sh i (digit s j i) 0) m ⊗ y)) (lift_sum ρ j i m hm ∙ choose_other m 0 _ _ d)
          ∙ ap (λ y. pow o (rack_point sh (digit s j) i) w ⊗ y) (mul_zero o L _) ∙ mul_zero o L _)

  module _ (h : ℕ) (host : h < B) (p : ℕ) (group : p < s ^ (B - 1)) (helper : ℕ → ℕ) (d R : ℕ) (helping : Helping sh h helper d R) (wide : R ≤ B - 1) (share : ℕ → A) where
    -- the digits of the group's layer of digit b
    a : ℕ → ℕ → ℕ
    a b = digit s (layer_of s h p b)

    -- rack sums that meet the checks summed over the group, with these shares
    W : ℕ → ℕ → A
    W b i = witness sh fits h host p group 0 helper d R helping share i (layer_of s h p b)

    W-meets : (w : ℕ) → w < R → sum o s (λ b. plain (a b) (W b) w) ≡ 𝟘
    unfolding a W
    W-meets w l =
        sym (group_sum_lem sh fits h host p group _ ∙ sum_congr o s _ _ (λ b k. rack_plain (digit s (layer_of s h p b)) _ w))
        ∙ (solved sh fits h host p group 0 helper d R helping share).checks w l

    -- in each layer by itself: the host's sum is kept, and R other racks make up for it
    other : Places (skip h) R B
    other = record { apart = λ i j k l e. skip_apart h i j e; inside = λ q l. omega (arith, skip_below h q (B - 1) (omega arith)) }

    T : ℕ → ℕ → A
    T b = recover o (rack_point sh (a b)) B (skip h) R (zeros o) (λ i. choose (eqb i h) (W b h) 𝟘)

    T-meets : (b w : ℕ) → w < R → plain (a b) (T b) w ≡ 𝟘
    unfolding T plain check a
    T-meets b w l = (recovered o L (rack_point sh (a b)) B (skip h) R other (racks_distinct sh fits (a b) (λ i k. digit_below s pos (layer_of s h p b) i)) (zeros o) _).at w l

    T-host : (b : ℕ) → T b h ≡ W b h
    unfolding T recover
    T-host b = fill_outside (skip h) _ _ R h (λ q l e. skip_other h q (sym e)) ∙ choose_same h h _ _ refl

    -- what is left goes into the layer of digit 0
    D : ℕ → A
    D i = sum o s (λ b. W b i ⊕ neg (T b i))

    D-host : (b : ℕ) → W b h ⊕ neg (T b h) ≡ 𝟘
    D-host b = ap (λ y. W b h ⊕ neg y) (T-host b) ∙ add_neg o L (W b h)

    less : (x y z : A) → x ⊗ (y ⊕ neg z) ≡ x ⊗ y ⊕ neg (x ⊗ z)
    less x y z = simp (ring, L)

    left : (b w : ℕ) → b < s → w < R → sum o B (λ i. pow o (rack_point sh (a 0) i) w ⊗ (W b i ⊕ neg (T b i))) ≡ plain (a b) (W b) w
    unfolding plain
    left b w l k =
        sum_congr o B _ _ (λ i m. term i (ℕ_discrete i h))
        ∙ sum_add o L B _ _ ∙ ap (λ y. sum o B (λ i. pow o (rack_point sh (a b) i) w ⊗ W b i) ⊕ y) (sum_neg o L B _ ∙ ap neg (T-meets b w k)) ∙ gone _
      where
        gone : (x : A) → x ⊕ neg 𝟘 ≡ x
        gone x = simp (ring, L)

        term : (i : ℕ) → Dec (i ≡ h) →
            pow o (rack_point sh (a 0) i) w ⊗ (W b i ⊕ neg (T b i)) ≡ pow o (rack_point sh (a b) i) w ⊗ W b i ⊕ neg (pow o (rack_point sh (a b) i) w ⊗ T b i)
        term i (yes e) =
            ap (λ y. pow o (rack_point sh (a 0) i) w ⊗ y) (none e) ∙ mul_zero o L _ ∙ sym (mul_zero o L _)
            ∙ ap (λ y. pow o (rack_point sh (a b) i) w ⊗ y) (sym (none e)) ∙ less _ _ _
          where
            none : i ≡ h → W b i ⊕ neg (T b i) ≡ 𝟘
            none e = subst (λ n. W b n ⊕ neg (T b n) ≡ 𝟘) (sym e) (D-host b)
        term i (no e) = ap (λ y. pow o y w ⊗ (W b i ⊕ neg (T b i))) same ∙ less _ _ _
          where
            same : rack_point sh (a 0) i ≡ rack_point sh (a b) i
            same = unfold rack_point a in ap (λ n. pow o (point sh i n 0) u) (layer_other s pos h p 0 b i pos l e)

    D-meets : (w : ℕ) → w < R → plain (a 0) D w ≡ 𝟘
    unfolding plain D
    D-meets w l =
        sum_congr o B _ _ (λ i k. sym (sum_mul_left o L s _ (λ b. W b i ⊕ neg (T b i))))
        ∙ sum_swap o L B s _ ∙ sum_congr o s _ _ (λ b k. left b w k l) ∙ W-meets w l

    -- the rack sums of the group's layer of digit b
    S : ℕ → ℕ → A
    S b i = T b i ⊕ choose (eqb b 0) (D i) 𝟘

    S-meets : (b w : ℕ) → w < R → plain (a b) (S b) w ≡ 𝟘
    unfolding S
    S-meets b w l = plain_add (a b) (T b) _ w ∙ ap₂ ◌⊕◌ (T-meets b w l) (rest (ℕ_discrete b 0)) ∙ zero_add o L 𝟘
      where
        rest : Dec (b ≡ 0) → plain (a b) (λ i. choose (eqb b 0) (D i) 𝟘) w ≡ 𝟘
        rest (yes e) = plain_congr (a b) _ D w (λ i k. choose_same b 0 _ _ e) ∙ ap (λ n. plain (a n) D w) e ∙ D-meets w l
        rest (no e) = plain_zero (a b) _ w (λ i. choose_other b 0 _ _ e)

    S-sum : (i : ℕ) → sum o s (λ b. S b i) ≡ sum o s (λ b. W b i)
    unfolding S D
    S-sum i =
        sum_add o L s _ _
        ∙ ap (λ y. sum o s (λ b. T b i) ⊕ y) (sum_single o L s 0 _ pos (λ b l e. choose_other b 0 _ _ e) ∙ choose_same 0 0 _ _ refl ∙ sum_add o L s _ _
        ∙ ap (λ y. sum o s (λ b. W b i) ⊕ y) (sum_neg o L s _))
        ∙ back _ _
      where
        back : (t w : A) → t ⊕ (w ⊕ neg t) ≡ w
        back t w = simp (ring, L)

    -- and of every layer
    pub sums : ℕ → ℕ → A
    sums i j = choose (eqb (group_of s h j) p) (S (digit s j h) i) 𝟘

    sums_meet : (j w : ℕ) → j < s ^ B → w < R → plain (digit s j) (λ i. sums i j) w ≡ 𝟘
    unfolding sums
    sums_meet j w hj l = go (ℕ_discrete (group_of s h j) p)
      where
        go : Dec (group_of s h j ≡ p) → plain (digit s j) (λ i. choose (eqb (group_of s h j) p) (S (digit s j h) i) 𝟘) w ≡ 𝟘
        go (yes e) =
            plain_congr (digit s j) _ (S (digit s j h)) w (λ i k. choose_same _ _ _ _ e)
            ∙ ap (λ n. plain (digit s n) (S (digit s j h)) w) (sym (ap (λ q. layer_of s h q (digit s j h)) (sym e) ∙ layer_back s pos h j))
            ∙ (unfold a in S-meets (digit s j h) w l)
        go (no e) = plain_zero (digit s j) _ w (λ i. choose_other _ _ _ _ e)

    sums_share : (i : ℕ) → group_sum sh h p (sums i) ≡ sum o s (λ b. W b i)
    unfolding sums
    sums_share i =
        group_sum_lem sh fits h host p group _
        ∙ sum_congr o s _ _ (λ b l. choose_same _ _ _ _ (layer_group s pos h p b l) ∙ ap (λ n. S n i) (layer_digit s pos h p b l))
        ∙ S-sum i

    -- there is a codeword whose helpers send these symbols for the group
    pub reached : (r : ℕ) → r ≤ R * u → Codeword sh r (lift sums)
    reached r room = lift_codeword sums R r room sums_meet

    pub reached_share : (k : ℕ) → k < d → share_symbol sh 0 h (lift sums) (helper k) p ≡ share k
    unfolding share_symbol W
    reached_share k l =
        ap (group_sum sh h p) (fun_ext (λ j. lift_plain sums j (helper k)))
        ∙ sums_share (helper k) ∙ sym (group_sum_lem sh fits h host p group _) ∙ (solved sh fits h host p group 0 helper d R helping share).given k l
