-- Checks of which there are two more than unknowns: the known values meet them exactly when two residues are zero, and a value changed shows in both.
-- Assumes nothing.
use mathlib.Core.Path.{◌≡◌, refl, sym, ◌∙◌, ap, ap₂}
use mathlib.Core.List.{List, [], ◌∷◌}
use Prim.Native.Nat.{ℕ, zero, suc, ◌+◌, ◌≤◌, ◌<◌}
use native.Mathlib.Nat.{le_of_eq, le_of_suc-le-suc}
use native.Mathlib.Decide.{ℕ_discrete}
use native.Mathlib.Omega.{arith}
use lib.ListN.{length}
use Rattle.algebra.specs.Field.{Ops, Laws}
use Rattle.algebra.specs.Sum.{sum, pow}
use Rattle.algebra.specs.Poly.{eval, coeff, linear}
use Rattle.algebra.specs.Lagrange.{check}
use Rattle.algebra.specs.Erasure.{Places, Meets, zeros, fill}
use Rattle.algebra.specs.Locate.{gaps, residue}
use Rattle.algebra.proofs.Ring.{ring, mul_zero, zero_mul, one_mul, mul_comm, zero_add, add_zero, add_neg, eq_of_sub, no_zero_divisor}
use Rattle.algebra.proofs.Sum.{sum_suc, sum_congr, sum_swap, sum_mul_left, sum_is_zero, sum_add, sum_single}
use Rattle.algebra.proofs.Pow.{pow_add}
use Rattle.algebra.proofs.Poly.{eval_nil, eval_cons, eval_linear, eval_sum, length_linear, coeff_nil, coeff_tail, coeff_linear_suc}
use Rattle.algebra.proofs.Erasure.{fill_same, check_fill, check_congr}

module _ {A : Type 0} (o : Ops A) (L : Laws o) where
  open o use {add as ◌⊕◌, mul as ◌⊗◌, neg, inv, zero as 𝟘, one as 𝟙}

  infixl 60 ◌⊕◌
  infixl 70 ◌⊗◌
  gaps_zero : (q : ℕ → A) (x : A) → gaps o q 0 x ≡ 𝟙
  unfolding gaps
  gaps_zero q x = refl

  gaps_suc : (q : ℕ → A) (m : ℕ) (x : A) → gaps o q (suc m) x ≡ gaps o q m x ⊗ (x ⊕ neg (q m))
  unfolding gaps
  gaps_suc q m x = refl

  -- the product is zero at each of its points ..
  pub gaps_at : (q : ℕ → A) (m i : ℕ) → i < m → gaps o q m (q i) ≡ 𝟘
  gaps_at q zero i l = absurd (omega arith)
  gaps_at q (suc m) i l = gaps_suc q m (q i) ∙ go (ℕ_discrete i m) (λ k. gaps_at q m i k)
    where
      go : Dec (i ≡ m) → (i < m → gaps o q m (q i) ≡ 𝟘) → gaps o q m (q i) ⊗ (q i ⊕ neg (q m)) ≡ 𝟘
      go (yes e) ih = ap (λ y. gaps o q m (q i) ⊗ (q y ⊕ neg (q m))) e ∙ ap (λ y. gaps o q m (q i) ⊗ y) (add_neg o L (q m)) ∙ mul_zero o L _
      go (no d) ih = ap (λ y. y ⊗ (q i ⊕ neg (q m))) (ih (omega arith)) ∙ zero_mul o L _

  -- .. and at no other
  pub gaps_not : (q : ℕ → A) (m : ℕ) (x : A) → ((i : ℕ) → i < m → ¬ (x ≡ q i)) → ¬ (gaps o q m x ≡ 𝟘)
  gaps_not q zero x h e = L.one_not_zero (sym (gaps_zero q x) ∙ e)
  gaps_not q (suc m) x h e =
      h m (omega arith) (eq_of_sub o L x (q m) (no_zero_divisor o L (gaps o q m x) (x ⊕ neg (q m)) (gaps_not q m x (λ i l. h i (omega arith))) (sym (gaps_suc q m x) ∙ e)))

  -- the product as a polynomial
  vanish : (ℕ → A) → ℕ → List A
  vanish q zero = 𝟙 ∷ []
  vanish q (suc m) = linear o (q m) (vanish q m)

  vanish_length : (q : ℕ → A) (m : ℕ) → length (vanish q m) ≡ suc m
  unfolding vanish
  vanish_length q zero = refl
  vanish_length q (suc m) = length_linear o (q m) (vanish q m) ∙ ap suc (vanish_length q m)

  vanish_eval : (q : ℕ → A) (m : ℕ) (x : A) → eval o (vanish q m) x ≡ gaps o q m x
  unfolding vanish
  vanish_eval q zero x = eval_cons o 𝟙 [] x ∙ ap (λ y. 𝟙 ⊕ x ⊗ y) (eval_nil o x) ∙ ap (λ y. 𝟙 ⊕ y) (mul_zero o L x) ∙ add_zero o L 𝟙 ∙ sym (gaps_zero q x)
  vanish_eval q (suc m) x =
      eval_linear o L (q m) (vanish q m) x ∙ ap (λ y. (x ⊕ neg (q m)) ⊗ y) (vanish_eval q m x) ∙ mul_comm o L _ _ ∙ sym (gaps_suc q m x)

  coeff_past : (l : List A) (t : ℕ) → length l ≤ t → coeff o l t ≡ 𝟘
  coeff_past [] t h = coeff_nil o t
  coeff_past (a ∷ l) zero h = absurd (omega arith)
  coeff_past (a ∷ l) (suc t) h = coeff_tail o a l t ∙ coeff_past l t (le_of_suc-le-suc h)

  less_zero : (q a : A) → a ⊕ neg (q ⊗ 𝟘) ≡ a
  less_zero q a = simp (ring, L)

  -- its highest coefficient is one
  vanish_top : (q : ℕ → A) (m : ℕ) → coeff o (vanish q m) m ≡ 𝟙
  unfolding vanish coeff
  vanish_top q zero = refl
  vanish_top q (suc m) =
      coeff_linear_suc o L (q m) (vanish q m) m
      ∙ ap₂ (λ x y. x ⊕ neg (q m ⊗ y)) (vanish_top q m) (coeff_past (vanish q m) (suc m) (le_of_eq (vanish_length q m)))
      ∙ less_zero (q m) 𝟙

  module _ (p : ℕ → A) (n : ℕ) (q : ℕ → A) (m : ℕ) where
    C : ℕ → A
    C j = coeff o (vanish q m) j

    apart : (c x w y : A) → c ⊗ (w ⊗ x ⊗ y) ≡ w ⊗ y ⊗ (c ⊗ x)
    apart c x w y = simp (ring, L)

    back : (w y g : A) → w ⊗ y ⊗ g ≡ w ⊗ (g ⊗ y)
    back w y g = simp (ring, L)

    -- the checks w .. w + m, each times the product's coefficient, are the check w of the word times the product
    combine : (y : ℕ → A) (w : ℕ) → sum o (suc m) (λ j. C j ⊗ check o p n y (w + j)) ≡ check o p n (λ x. gaps o q m (p x) ⊗ y x) w
    unfolding check C
    combine y w =
        sum_congr o (suc m) _ (λ j. sum o n (λ x. C j ⊗ (pow o (p x) (w + j) ⊗ y x))) (λ j l. sym (sum_mul_left o L n (C j) (λ x. pow o (p x) (w + j) ⊗ y x)))
        ∙ sum_swap o L (suc m) n (λ j x. C j ⊗ (pow o (p x) (w + j) ⊗ y x))
        ∙ sum_congr o n _ (λ x. pow o (p x) w ⊗ (gaps o q m (p x) ⊗ y x)) (λ x l.
        sum_congr o (suc m) _ (λ j. pow o (p x) w ⊗ y x ⊗ (C j ⊗ pow o (p x) j))
        (λ j k. ap (λ e. C j ⊗ (e ⊗ y x)) (pow_add o L (p x) w j) ∙ apart (C j) (pow o (p x) j) (pow o (p x) w) (y x))
        ∙ sum_mul_left o L (suc m) (pow o (p x) w ⊗ y x) (λ j. C j ⊗ pow o (p x) j)
        ∙ ap (λ e. pow o (p x) w ⊗ y x ⊗ e) (sym (eval_sum o L (suc m) (vanish q m) (p x) (le_of_eq (vanish_length q m))) ∙ vanish_eval q m (p x))
        ∙ back (pow o (p x) w) (y x) (gaps o q m (p x)))

    -- where the lower ones are zero, that is the highest
    combine_top : (y : ℕ → A) (w : ℕ) → ((j : ℕ) → j < m → check o p n y (w + j) ≡ 𝟘) → check o p n y (w + m) ≡ check o p n (λ x. gaps o q m (p x) ⊗ y x) w
    unfolding C
    combine_top y w low =
        sym (
        sum_suc o m _
        ∙ ap₂ ◌⊕◌ (sum_is_zero o L m _ (λ j l. ap (λ e. C j ⊗ e) (low j l) ∙ mul_zero o L (C j))) (ap (λ e. e ⊗ check o p n y (w + m)) (vanish_top q m) ∙ one_mul o L _)
        ∙ zero_add o L _)
        ∙ combine y w

  -- known places K 0 .. K (d - 1) and unknown ones U 0 .. U (m - 1), of n places in all
  module _ (p : ℕ → A) (n : ℕ) (K : ℕ → ℕ) (d : ℕ) (U : ℕ → ℕ) (m : ℕ) (places : Places K d n)
      (cover : (P : Type 0) (x : ℕ) → x < n → ((k : ℕ) → k < d → x ≡ K k → P) → ((i : ℕ) → i < m → x ≡ U i → P) → P) where
    x : ℕ → A
    x k = p (K k)

    q : ℕ → A
    q i = p (U i)

    nil : ℕ → A
    nil y = 𝟘

    empty : (w : ℕ) → check o p n (fill K (λ k. 𝟘) d nil) w ≡ 𝟘
    unfolding check nil
    empty w = sum_is_zero o L n _ (λ y l. ap (λ e. pow o (p y) w ⊗ e) (sym (fill_same K (λ k. 𝟘) nil d nil y (λ k h e. refl) (λ h. refl))) ∙ mul_zero o L (pow o (p y) w))

    -- a word times the product counts at the known places alone
    known_only : (y : ℕ → A) (w : ℕ) → check o p n (λ z. gaps o q m (p z) ⊗ y z) w ≡ check o x d (λ k. gaps o q m (x k) ⊗ y (K k)) w
    unfolding nil x q
    known_only y w =
        check_congr o L p n K _ (fill K (λ k. gaps o q m (p (K k)) ⊗ y (K k)) d nil) w (λ z l. fill_same K (λ k. gaps o q m (p (K k)) ⊗ y (K k)) nil d (λ z. gaps o q m (p z) ⊗ y z) z
        (λ k h e. ap (λ i. gaps o q m (p i) ⊗ y i) e)
        (λ out. cover (gaps o q m (p z) ⊗ y z ≡ 𝟘) z l (λ k h e. absurd (out k h e)) (λ i h e.
        ap (λ j. gaps o q m (p j) ⊗ y z) e ∙ ap (λ g. g ⊗ y z) (gaps_at q m i h) ∙ zero_mul o L (y z))))
        ∙ check_fill o L p n K _ nil d w places
        ∙ ap (λ e. e ⊕ check o x d (λ k. gaps o q m (x k) ⊗ y (K k)) w) (empty w)
        ∙ zero_add o L _

    module _ (v y : ℕ → A) (same : (k : ℕ) → k < d → y (K k) ≡ v k) where
      residue_is : (w : ℕ) → check o p n (λ z. gaps o q m (p z) ⊗ y z) w ≡ residue o (λ k. p (K k)) d (λ i. p (U i)) m v w
      unfolding residue x q check
      residue_is w = known_only y w ∙ sum_congr o d _ _ (λ k l. ap (λ e. pow o (x k) w ⊗ (gaps o q m (x k) ⊗ e)) (same k l))

      -- values that meet m + 2 checks have residues zero
      pub meets_residue : Meets o p n (m + 2) (zeros o) y → (w : ℕ) → w < 2 → residue o (λ k. p (K k)) d (λ i. p (U i)) m v w ≡ 𝟘
      unfolding C
      meets_residue good w l =
          sym (residue_is w)
          ∙ sym (combine p n q m y w)
          ∙ sum_is_zero o L (suc m) _ (λ j h. ap (λ e. C p n q m j ⊗ e) (good.at (w + j) (omega arith)) ∙ mul_zero o L (C p n q m j))

      -- and back, for a word that meets the first m checks
      pub residue_meets : Meets o p n m (zeros o) y → residue o (λ k. p (K k)) d (λ i. p (U i)) m v 0 ≡ 𝟘 → residue o (λ k. p (K k)) d (λ i. p (U i)) m v 1 ≡ 𝟘 →
          Meets o p n (m + 2) (zeros o) y
      residue_meets good zero-0 zero-1 = record { at = λ t l. go t l (ℕ_discrete t m) (ℕ_discrete t (1 + m)) }
        where
          none : (j : ℕ) → j ≡ 0 + j
          none j = omega arith

          next : check o p n y m ≡ 𝟘
          next = ap (check o p n y) (none m) ∙ combine_top p n q m y 0 (λ j l. ap (check o p n y) (sym (none j)) ∙ good.at j l) ∙ residue_is 0 ∙ zero-0

          low : (j : ℕ) → j < m → Dec (1 + j ≡ m) → check o p n y (1 + j) ≡ 𝟘
          low j l (yes e) = ap (check o p n y) e ∙ next
          low j l (no e) = good.at (1 + j) (omega arith)

          last : check o p n y (1 + m) ≡ 𝟘
          last = combine_top p n q m y 1 (λ j l. low j l (ℕ_discrete (1 + j) m)) ∙ residue_is 1 ∙ zero-1

          go : (t : ℕ) → t < m + 2 → Dec (t ≡ m) → Dec (t ≡ 1 + m) → check o p n y t ≡ 𝟘
          go t l (yes e) f = ap (check o p n y) e ∙ next
          go t l (no e) (yes f) = ap (check o p n y) f ∙ last
          go t l (no e) (no f) = good.at t (omega arith)

  -- one value changed
  module _ (x : ℕ → A) (d : ℕ) (q : ℕ → A) (m : ℕ) (v v' : ℕ → A) (k : ℕ) (inside : k < d) (alike : (i : ℕ) → i < d → ¬ (i ≡ k) → v i ≡ v' i) where
    G : ℕ → A
    G i = gaps o q m (x i)

    split : (w g a b : A) → w ⊗ (g ⊗ b) ≡ w ⊗ (g ⊗ a) ⊕ w ⊗ (g ⊗ (b ⊕ neg a))
    split w g a b = simp (ring, L)

    nothing : (w g a : A) → w ⊗ (g ⊗ (a ⊕ neg a)) ≡ 𝟘
    nothing w g a = simp (ring, L)

    -- each residue changes by the point's power times the product at the point times the difference
    pub residue_changed : (w : ℕ) → residue o x d q m v' w ≡ residue o x d q m v w ⊕ pow o (x k) w ⊗ (gaps o q m (x k) ⊗ (v' k ⊕ neg (v k)))
    unfolding residue check G
    residue_changed w =
        sum_congr o d _ _ (λ i l. split (pow o (x i) w) (G i) (v i) (v' i))
        ∙ sum_add o L d _ _
        ∙ ap (λ e. sum o d (λ i. pow o (x i) w ⊗ (G i ⊗ v i)) ⊕ e)
        (sum_single o L d k _ inside (λ i l e. ap (λ a. pow o (x i) w ⊗ (G i ⊗ (a ⊕ neg (v i)))) (sym (alike i l e)) ∙ nothing (pow o (x i) w) (G i) (v i)))
