-- For any shares the rule of repair has one solution, and with a codeword's shares that is the codeword's rack sums.
-- Assumes nothing.
use mathlib.Core.Path.{◌≡◌, refl, sym, ◌∙◌, ap, fun_ext}
use mathlib.Core.Bool.{Bool, true, false}
use Prim.Native.Nat.{ℕ, ◌+◌, ◌-◌, ◌*◌, ◌^◌, ◌<◌}
use native.Mathlib.Decide.{ℕ_discrete, dec_lt}
use native.Mathlib.Omega.{arith}
use lib.Dec.{eqb}
use Rattle.algebra.specs.Sum.{sum, pow}
use Rattle.algebra.specs.Lagrange.{check}
use Rattle.algebra.specs.Erasure.{choose, Alike, Places, Meets, zeros, recover}
use Rattle.algebra.specs.Shape.{Shape, Fits}
use Rattle.algebra.specs.Points.{point, place, rack_sum, rack_check}
use Rattle.algebra.specs.Layers.{digit, group_of, layer_of}
use Rattle.algebra.specs.Cabinet.{layer_point, Codeword, group_sum, share_symbol, Helping, Solution}
use Rattle.algebra.specs.Group.{skip, unskip, digits_at, group_point, group_word}
use Rattle.algebra.specs.Repair.{helper_place, host_sum}
use Rattle.algebra.proofs.Equal.{eqb_same, eqb_other}
use Rattle.algebra.proofs.Ring.{mul_inv_left, inv_mul_left}
use Rattle.algebra.proofs.Sum.{sum_congr, sum_swap, sum_single, sum_is_zero}
use Rattle.algebra.proofs.Erasure.{check_congr, recovered, recovered_only}
use Rattle.algebra.proofs.Points.{places_distinct, rack_check_lem}
use Rattle.algebra.proofs.Layers.{digit_below, layer_digit, layer_other, layer_group, layer_in, layer_back}
use Rattle.algebra.proofs.Skip.{skip_other, skip_unskip, unskip_skip, digits_host, digits_other, join_low, join_high, join_add}
use Rattle.algebra.proofs.Group.{group_check}
use Rattle.algebra.proofs.Repair.{point_not_zero, solution, solution_meets, solution_shares, solution_host, host_only}

-- the digits of a group's layer
pub digits_are : (s h p b : ℕ) → 0 < s → b < s → digits_at h (digit s (layer_of s h p 0)) b ≡ digit s (layer_of s h p b)
digits_are s h p b pos l = fun_ext (λ i. go i (ℕ_discrete i h))
  where
    go : (i : ℕ) → Dec (i ≡ h) → digits_at h (digit s (layer_of s h p 0)) b i ≡ digit s (layer_of s h p b) i
    go i (yes e) = ap (digits_at h (digit s (layer_of s h p 0)) b) e ∙ digits_host h (digit s (layer_of s h p 0)) b ∙ sym (layer_digit s pos h p b l) ∙ ap (digit s (layer_of s h p b)) (sym e)
    go i (no e) = digits_other h (digit s (layer_of s h p 0)) b i e ∙ layer_other s pos h p 0 b i pos l e

pub choose_same : {A : Type 0} (m n : ℕ) (x y : A) → m ≡ n → choose (eqb m n) x y ≡ x
unfolding choose
choose_same m n x y e = ap (λ b. choose b x y) (ap (λ k. eqb k n) e ∙ eqb_same n)

pub choose_other : {A : Type 0} (m n : ℕ) (x y : A) → ¬ (m ≡ n) → choose (eqb m n) x y ≡ y
unfolding choose
choose_other m n x y d = ap (λ b. choose b x y) (eqb_other d)

choose_both : {A : Type 0} (b : Bool) (x y : A) → x ≡ y → choose b x y ≡ y
unfolding choose
choose_both true x y e = e
choose_both false x y e = refl

module _ {A : Type 0} (sh : Shape A) (fits : Fits sh) (h : ℕ) (host : h < sh.racks) (p : ℕ) (group : p < sh.digits ^ (sh.racks - 1)) where
  open sh use {ops as o, racks as B, size as u, digits as s}
  open fits use {laws as L, some_digits as pos}
  open sh.ops use {mul as ◌⊗◌, inv, zero as 𝟘}

  infixl 70 ◌⊗◌
  -- a layer counts in a group where it is one of the group's s layers
  counted : (f : ℕ → A) (j : ℕ) → choose (eqb (group_of s h j) p) (f j) 𝟘 ≡ sum o s (λ b. choose (eqb j (layer_of s h p b)) (f j) 𝟘)
  counted f j = go (ℕ_discrete (group_of s h j) p)
    where
      go : Dec (group_of s h j ≡ p) → choose (eqb (group_of s h j) p) (f j) 𝟘 ≡ sum o s (λ b. choose (eqb j (layer_of s h p b)) (f j) 𝟘)
      go (yes e) =
          let here : j ≡ layer_of s h p (digit s j h) = sym (layer_back s pos h j) ∙ ap (λ q. layer_of s h q (digit s j h)) e in
          choose_same _ _ _ _ e
          ∙ sym (choose_same _ _ _ _ here)
          ∙ sym (sum_single o L s (digit s j h) _ (digit_below s pos j h)
          (λ b l d. choose_other _ _ _ _ (λ q. d (sym (layer_digit s pos h p b l) ∙ ap (λ i. digit s i h) (sym q)))))
      go (no d) =
          choose_other _ _ _ _ d
          ∙ sym (sum_is_zero o L s _ (λ b l. choose_other _ _ _ _ (λ q. d (ap (group_of s h) q ∙ layer_group s pos h p b l))))

  -- so a sum over a group is one over the digits of the host rack
  pub group_sum_lem : (f : ℕ → A) → group_sum sh h p f ≡ sum o s (λ b. f (layer_of s h p b))
  unfolding group_sum
  group_sum_lem f =
      sum_congr o (s ^ B) _ _ (λ j l. counted f j)
      ∙ sum_swap o L (s ^ B) s _
      ∙ sum_congr o s _ _ (λ b l.
      sum_single o L (s ^ B) (layer_of s h p b) _ (layer_in s pos B h p b host group l) (λ j k d. choose_other _ _ _ _ d) ∙ choose_same (layer_of s h p b) (layer_of s h p b) _ 𝟘 refl)

  -- the digits of the group's layers at the racks other than the host
  a : ℕ → ℕ
  a = digit s (layer_of s h p 0)

  a_below : (i : ℕ) → i < B → a i < s
  unfolding a
  a_below i l = digit_below s pos (layer_of s h p 0) i

  -- the checks summed over the group, digit by digit
  sum_checks : (m : ℕ) (ρ : ℕ → ℕ → A) (w : ℕ) →
      group_sum sh h p (λ j. rack_check sh (digit s j) m (λ i. ρ i j) w) ≡ sum o s (λ b. rack_check sh (digits_at h a b) m (λ i. ρ i (layer_of s h p b)) w)
  unfolding a
  sum_checks m ρ w =
      group_sum_lem (λ j. rack_check sh (digit s j) m (λ i. ρ i j) w)
      ∙ sum_congr o s _ _ (λ b l. ap (λ e. rack_check sh e m (λ i. ρ i (layer_of s h p b)) w) (sym (digits_are s h p b pos l)))

  module _ (m : ℕ) (helper : ℕ → ℕ) (d R : ℕ) (helping : Helping sh h helper d R) (share : ℕ → A) where
    -- the host's rack sums of every solution are those that the formula gives
    pub sums_only : (ρ : ℕ → ℕ → A) → Solution sh m h p helper d R share ρ →
        (b : ℕ) → b < s → ρ h (layer_of s h p b) ≡ host_sum sh h (digit s (layer_of s h p 0)) helper d R m share b
    unfolding a
    sums_only ρ sol b l =
        host_only sh fits h a a_below helper d R helping m (λ b i. ρ i (layer_of s h p b)) share
        (λ w k. sym (sum_checks m ρ w) ∙ sol.checks w k)
        (λ k q. sym (sol.given k q) ∙ group_sum_lem (ρ (helper k))) b l

    -- there is a solution: the host's rack sums by the formula, and each other rack's group sum in the layer of digit 0
    weight : ℕ → A
    weight i = pow o (point sh i (a i) 0) m

    group_other : ℕ → A
    group_other i = inv (weight i) ⊗ solution sh fits h a a_below helper d R helping m share (s + unskip h i)

    pub witness : ℕ → ℕ → A
    witness i j =
        choose (eqb i h) (host_sum sh h a helper d R m share (digit s j h))
        (choose (eqb (digit s j h) 0) (group_other i) 𝟘)

    witness_host : (b : ℕ) → b < s → witness h (layer_of s h p b) ≡ host_sum sh h a helper d R m share b
    unfolding witness
    witness_host b l = choose_same h h _ _ refl ∙ ap (host_sum sh h a helper d R m share) (layer_digit s pos h p b l)

    witness_sum : (i : ℕ) → ¬ (i ≡ h) → sum o s (λ b. witness i (layer_of s h p b)) ≡ group_other i
    unfolding witness
    witness_sum i d' =
        sum_congr o s _ (λ b. choose (eqb b 0) (group_other i) 𝟘)
        (λ b l. choose_other i h _ _ d' ∙ ap (λ x. choose (eqb x 0) (group_other i) 𝟘) (layer_digit s pos h p b l))
        ∙ sum_single o L s 0 _ pos (λ b l e. choose_other b 0 _ _ e)
        ∙ choose_same 0 0 (group_other i) 𝟘 refl

    word_is : (x : ℕ) → x < s + (B - 1) → group_word sh h a m (λ b i. witness i (layer_of s h p b)) x ≡ solution sh fits h a a_below helper d R helping m share x
    unfolding group_word weight group_other
    word_is x l = go (dec_lt x s)
      where
        go : Dec (x < s) → group_word sh h a m (λ b i. witness i (layer_of s h p b)) x ≡ solution sh fits h a a_below helper d R helping m share x
        go (yes k) =
            join_low s _ _ x k ∙ ap (λ y. pow o (point sh h x 0) m ⊗ y) (witness_host x k)
            ∙ sym (solution_host sh fits h a a_below helper d R helping m share x k)
        go (no k) =
            join_high s _ _ x (omega arith)
            ∙ ap (λ y. pow o (point sh (skip h (x - s)) (a (skip h (x - s))) 0) m ⊗ y) (witness_sum (skip h (x - s)) (skip_other h (x - s)))
            ∙ mul_inv_left o L _ _ (point_not_zero sh fits h a a_below helper d R helping (skip h (x - s)) (a (skip h (x - s))) m)
            ∙ ap (λ i. solution sh fits h a a_below helper d R helping m share (s + i)) (unskip_skip h (x - s))
            ∙ ap (solution sh fits h a a_below helper d R helping m share) (back x s k)
          where
            back : (x s : ℕ) → ¬ (x < s) → s + (x - s) ≡ x
            back x s k = omega arith

    -- the word of the group by the first R checks
    pub group_solution : ℕ → A
    group_solution = solution sh fits h a a_below helper d R helping m share

    pub group_meets : Meets o (group_point sh h (digit s (layer_of s h p 0))) (s + (B - 1)) R (zeros o) group_solution
    unfolding group_solution a
    group_meets = solution_meets sh fits h a a_below helper d R helping m share

    pub group_shares : (k : ℕ) → k < d → group_solution (helper_place s h helper k) ≡ pow o (point sh (helper k) (digit s (layer_of s h p 0) (helper k)) 0) m ⊗ share k
    unfolding group_solution a
    group_shares = solution_shares sh fits h a a_below helper d R helping m share

    -- so far as it meets checks, there is a solution of these
    pub solved_to : (r : ℕ) → Meets o (group_point sh h (digit s (layer_of s h p 0))) (s + (B - 1)) r (zeros o) group_solution → Solution sh m h p helper d r share witness
    unfolding helper_place weight group_other group_solution a
    solved_to r good = record {
      given = λ k l.
          group_sum_lem (witness (helper k))
          ∙ witness_sum (helper k) (helping.other k l)
          ∙ ap (λ y. inv (weight (helper k)) ⊗ y) (solution_shares sh fits h a a_below helper d R helping m share k l)
          ∙ inv_mul_left o L _ _ (point_not_zero sh fits h a a_below helper d R helping (helper k) (a (helper k)) m);
      checks = λ w l.
          sum_checks m witness w
          ∙ group_check sh fits h host a (λ b i. witness i (layer_of s h p b)) w m
          ∙ check_congr o L (group_point sh h a) (s + (B - 1)) (λ x. x) _ _ w word_is
          ∙ good.at w l;
    }

    pub solved : Solution sh m h p helper d R share witness
    solved = solved_to R group_meets

  -- the word of a solution meets the checks, and has at the helpers' places what they sent
  module _ (m : ℕ) (helper : ℕ → ℕ) (d r : ℕ) (share : ℕ → A) (ρ : ℕ → ℕ → A) (sol : Solution sh m h p helper d r share ρ) where
    pub solution_word : Meets o (group_point sh h (digit s (layer_of s h p 0))) (s + (B - 1)) r (zeros o) (group_word sh h (digit s (layer_of s h p 0)) m (λ b i. ρ i (layer_of s h p b)))
    unfolding a
    solution_word = record { at = λ w l. sym (group_check sh fits h host a (λ b i. ρ i (layer_of s h p b)) w m) ∙ sym (sum_checks m ρ w) ∙ sol.checks w l }

    pub solution_sent : (k : ℕ) → k < d → ¬ (helper k ≡ h) →
        group_word sh h (digit s (layer_of s h p 0)) m (λ b i. ρ i (layer_of s h p b)) (helper_place s h helper k)
        ≡ pow o (point sh (helper k) (digit s (layer_of s h p 0) (helper k)) 0) m ⊗ share k
    unfolding group_word helper_place a
    solution_sent k l d' =
        join_add s _ _ (unskip h (helper k))
        ∙ ap (λ i. pow o (point sh i (a i) 0) m ⊗ sum o s (λ b. ρ i (layer_of s h p b))) (skip_unskip h (helper k) d')
        ∙ ap (λ x. pow o (point sh (helper k) (a (helper k)) 0) m ⊗ x) (sym (group_sum_lem (ρ (helper k))) ∙ sol.given k l)

  -- a codeword's rack sums are a solution for its shares
  pub codeword_solution : (m : ℕ) (helper : ℕ → ℕ) (d R r : ℕ) → ((w : ℕ) → w < R → u * w + m < r) → (c : ℕ → ℕ → A) → Codeword sh r c →
      Solution sh m h p helper d R (λ k. share_symbol sh m h c (helper k) p) (λ i j. rack_sum sh (λ x. c x j) m i)
  unfolding share_symbol group_sum layer_point
  codeword_solution m helper d R r enough c good = record {
    given = λ k l. refl;
    checks = λ w l. sum_is_zero o L (s ^ B) _ (λ j k. choose_both _ _ _ (
        sym (rack_check_lem sh fits (digit s j) (λ x. c x j) w m) ∙ good.at j (u * w + m) k (enough w l)));
  }

-- lost places of a rack: the only symbols there that give the weighted sums σ 0 .. σ (e - 1)
module _ {A : Type 0} (sh : Shape A) (fits : Fits sh) (lost : ℕ → ℕ) (e : ℕ) (places : Places lost e sh.size) where
  open sh use {ops as o, size as u}

  pub lost_meets : (σ c : ℕ → A) → Meets o (place sh) u e σ (recover o (place sh) u lost e σ c)
  lost_meets = recovered o fits.laws (place sh) u lost e places (places_distinct sh fits)

  pub lost_only : (σ c y : ℕ → A) → Alike lost e u c y → Meets o (place sh) u e σ y → (g : ℕ) → g < u → y g ≡ recover o (place sh) u lost e σ c g
  lost_only = recovered_only o fits.laws (place sh) u lost e places (places_distinct sh fits)

  -- the sums of a rack are checks at the places' factors
  pub sums_check : (c : ℕ → A) (m i : ℕ) → rack_sum sh c m i ≡ check o (place sh) u (λ g. c (i * u + g)) m
  unfolding rack_sum check
  sums_check c m i = refl
