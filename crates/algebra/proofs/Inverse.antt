-- The sums over the places, each times a power of its factor, undone: by the same sums with the opposite powers.
-- Assumes nothing.
use mathlib.Core.Path.{◌≡◌, sym, ◌∙◌, ap}
use Prim.Native.Nat.{ℕ, zero, suc, ◌+◌, ◌-◌, ◌<◌}
use native.Mathlib.Nat.{mul_comm as times_comm}
use native.Mathlib.Decide.{dec_lt}
use native.Mathlib.Omega.{arith}
use Rattle.algebra.specs.Field.{Ops, Laws}
use Rattle.algebra.specs.Sum.{sum, pow}
use Rattle.algebra.specs.Lagrange.{Distinct}
use Rattle.algebra.proofs.Ring.{ring, mul_add, add_neg, mul_assoc, one_mul, zero_mul, eq_of_sub, no_zero_divisor}
use Rattle.algebra.proofs.Sum.{sum_zero, sum_suc, sum_congr, sum_mul_left, sum_mul_right, sum_swap, sum_single}
use Rattle.algebra.proofs.Pow.{pow_zero, pow_suc, pow_add, pow_mul, mul_pow, one_pow}
use Rattle.algebra.specs.Points.{opposite}

module _ {A : Type 0} (o : Ops A) (L : Laws o) where
  open o use {add as ◌⊕◌, mul as ◌⊗◌, neg, inv, zero as 𝟘, one as 𝟙}

  infixl 60 ◌⊕◌
  infixl 70 ◌⊗◌
  -- the sum of the first powers
  step : (x p : A) → p ⊕ neg 𝟙 ⊕ (x ⊕ neg 𝟙) ⊗ p ≡ x ⊗ p ⊕ neg 𝟙
  step x p = simp (ring, L)

  none : (x : A) → (x ⊕ neg 𝟙) ⊗ 𝟘 ≡ 𝟙 ⊕ neg 𝟙
  none x = simp (ring, L)

  powers_sum : (x : A) (n : ℕ) → (x ⊕ neg 𝟙) ⊗ sum o n (pow o x) ≡ pow o x n ⊕ neg 𝟙
  powers_sum x zero = ap (λ y. (x ⊕ neg 𝟙) ⊗ y) (sum_zero o (pow o x)) ∙ none x ∙ ap (λ y. y ⊕ neg 𝟙) (sym (pow_zero o x))
  powers_sum x (suc n) =
      ap (λ y. (x ⊕ neg 𝟙) ⊗ y) (sum_suc o n (pow o x)) ∙ mul_add o L (x ⊕ neg 𝟙) (sum o n (pow o x)) (pow o x n)
      ∙ ap (λ y. y ⊕ (x ⊕ neg 𝟙) ⊗ pow o x n) (powers_sum x n) ∙ step x (pow o x n) ∙ ap (λ y. y ⊕ neg 𝟙) (sym (pow_suc o x n))

  powers_cancel : (x : A) (n : ℕ) → pow o x n ≡ 𝟙 → ¬ (x ≡ 𝟙) → sum o n (pow o x) ≡ 𝟘
  powers_cancel x n e d =
      no_zero_divisor o L (x ⊕ neg 𝟙) (sum o n (pow o x)) (λ z. d (eq_of_sub o L x 𝟙 z)) (powers_sum x n ∙ ap (λ y. y ⊕ neg 𝟙) e ∙ add_neg o L 𝟙)

  module _ (ζ : A) (u : ℕ) (full : pow o ζ u ≡ 𝟙) (different : Distinct (pow o ζ) u) where
    not_one : (k : ℕ) → k < u + u → ¬ (k ≡ 0) → ¬ (k ≡ u) → ¬ (pow o ζ k ≡ 𝟙)
    not_one k h a b e = go (dec_lt k u)
      where
        go : Dec (k < u) → ⊥
        go (yes l) = a (different.apart k 0 l (omega arith) (e ∙ sym (pow_zero o ζ)))
        go (no l) = b (let q : k - u ≡ 0 = different.apart (k - u) 0 (omega arith) (omega arith) (sym lower ∙ e ∙ sym (pow_zero o ζ)) in omega arith)
          where
            lower : pow o ζ k ≡ pow o ζ (k - u)
            lower =
                (let q : k ≡ u + (k - u) = omega arith in ap (pow o ζ) q) ∙ pow_add o L ζ u (k - u) ∙ ap (λ y. y ⊗ pow o ζ (k - u)) full ∙ one_mul o L (pow o ζ (k - u))

    others : (k : ℕ) → k < u + u → ¬ (k ≡ 0) → ¬ (k ≡ u) → sum o u (pow o (pow o ζ k)) ≡ 𝟘
    others k h a b =
        powers_cancel (pow o ζ k) u
        (sym (pow_mul o L ζ k u) ∙ ap (pow o ζ) (times_comm k u) ∙ pow_mul o L ζ u k ∙ ap (λ y. pow o y k) full ∙ one_pow o L k) (not_one k h a b)

    term : (f h m : ℕ) (x : A) → pow o (pow o ζ m) f ⊗ (pow o (pow o ζ h) m ⊗ x) ≡ pow o (pow o ζ (f + h)) m ⊗ x
    term f h m x =
        sym (mul_assoc o L (pow o (pow o ζ m) f) (pow o (pow o ζ h) m) x)
        ∙ ap (λ y. y ⊗ x)
        (ap (λ y. y ⊗ pow o (pow o ζ h) m) (sym (pow_mul o L ζ m f) ∙ ap (pow o ζ) (times_comm m f) ∙ pow_mul o L ζ f m)
        ∙ sym (mul_pow o L (pow o ζ f) (pow o ζ h) m) ∙ ap (λ y. pow o y m) (sym (pow_add o L ζ f h)))

    module _ (ones : sum o u (λ m. 𝟙) ≡ 𝟙) (x : ℕ → A) where
      at_place : (f g : ℕ) → f < u → g < u → pow o ζ (f + g) ≡ 𝟙 → ((h : ℕ) → h < u → ¬ (h ≡ g) → ¬ (f + h ≡ 0)) → ((h : ℕ) → h < u → ¬ (h ≡ g) → ¬ (f + h ≡ u)) →
          sum o u (λ m. pow o (pow o ζ m) f ⊗ sum o u (λ h. pow o (pow o ζ h) m ⊗ x h)) ≡ x g
      at_place f g hf hg e a b =
          sum_congr o u _ _ (λ m k. sym (sum_mul_left o L u (pow o (pow o ζ m) f) (λ h. pow o (pow o ζ h) m ⊗ x h)) ∙ sum_congr o u _ _ (λ h i. term f h m (x h)))
          ∙ sum_swap o L u u (λ m h. pow o (pow o ζ (f + h)) m ⊗ x h)
          ∙ sum_congr o u _ _ (λ h i. sum_mul_right o L u (x h) (pow o (pow o ζ (f + h))))
          ∙ sum_single o L u g (λ h. sum o u (pow o (pow o ζ (f + h))) ⊗ x h) hg
          (λ h k d. ap (λ y. y ⊗ x h) (others (f + h) (omega arith) (a h k d) (b h k d)) ∙ zero_mul o L (x h))
          ∙ ap (λ y. y ⊗ x g) (sum_congr o u _ _ (λ m k. ap (λ y. pow o y m) e ∙ one_pow o L m) ∙ ones) ∙ one_mul o L (x g)

      pub inverse_sum : (g : ℕ) → g < u → sum o u (λ m. pow o (pow o ζ m) (opposite u g) ⊗ sum o u (λ h. pow o (pow o ζ h) m ⊗ x h)) ≡ x g
      unfolding opposite
      inverse_sum zero h = at_place 0 0 h h (pow_zero o ζ) (λ i k d e. d (omega arith)) (λ i k d e. omega arith)
      inverse_sum (suc g) h =
          at_place (u - suc g) (suc g) (omega arith) h ((let q : u - suc g + suc g ≡ u = omega arith in ap (pow o ζ) q) ∙ full) (λ i k d e. omega arith) (λ i k d e. d (omega arith))
