-- The polynomial of degree below n through values at n different points: it exists, and it is the only one.
-- Assumes nothing.
use mathlib.Core.Path.{◌≡◌, sym, ◌∙◌, ap}
use Prim.Native.Nat.{ℕ, ◌<◌}
use native.Mathlib.Nat.{le_of_eq, le_refl}
use Rattle.algebra.specs.Field.{Ops, Laws}
use Rattle.algebra.specs.Sum.{sum, pow}
use Rattle.algebra.specs.Poly.{eval, coeff}
use Rattle.algebra.specs.Lagrange.{Distinct, basis}
use Rattle.algebra.proofs.Ring.{mul_zero, mul_one, mul_assoc}
use Rattle.algebra.proofs.Sum.{sum_congr, sum_swap, sum_mul_left, sum_mul_right, sum_single}
use Rattle.algebra.proofs.Poly.{eval_sum}
use Rattle.algebra.proofs.Roots.{agree}
use Rattle.algebra.proofs.Lagrange.{length_basis, own, other}

module _ {A : Type 0} (o : Ops A) (p : ℕ → A) (n : ℕ) where
  open o use {mul as ◌⊗◌}

  infixl 70 ◌⊗◌
  -- the factor of X^t in the polynomial of degree below n through the values v
  unfoldable pub through : (ℕ → A) → ℕ → A
  through v t = sum o n (λ i. v i ⊗ coeff o (basis o p i n) t)

module _ {A : Type 0} (o : Ops A) (L : Laws o) (p : ℕ → A) (n : ℕ) where
  open o use {mul as ◌⊗◌}

  infixl 70 ◌⊗◌
  -- its value anywhere
  pub through_value : (v : ℕ → A) (x : A) → sum o n (λ t. through o p n v t ⊗ pow o x t) ≡ sum o n (λ i. v i ⊗ eval o (basis o p i n) x)
  unfolding through
  through_value v x =
      sum_congr o n _ (λ t. sum o n (λ i. v i ⊗ (coeff o (basis o p i n) t ⊗ pow o x t)))
      (λ t h. sym (sum_mul_right o L n (pow o x t) (λ i. v i ⊗ coeff o (basis o p i n) t)) ∙ sum_congr o n _ _ (λ i k. mul_assoc o L (v i) (coeff o (basis o p i n) t) (pow o x t)))
      ∙ sum_swap o L n n (λ t i. v i ⊗ (coeff o (basis o p i n) t ⊗ pow o x t))
      ∙ sum_congr o n _ (λ i. v i ⊗ eval o (basis o p i n) x)
      (λ i k. sum_mul_left o L n (v i) (λ t. coeff o (basis o p i n) t ⊗ pow o x t) ∙ ap (λ e. v i ⊗ e) (sym (eval_sum o L n (basis o p i n) x (le_of_eq (length_basis o p i n k)))))

  module _ (distinct : Distinct p n) where
    -- it goes through the values
    pub through_at_lem : (v : ℕ → A) (j : ℕ) → j < n → sum o n (λ t. through o p n v t ⊗ pow o (p j) t) ≡ v j
    through_at_lem v j h =
        through_value v (p j)
        ∙ sum_single o L n j _ h (λ i k d. ap (λ e. v i ⊗ e) (other o L p n distinct i j n h (λ e. d (sym e))) ∙ mul_zero o L (v i))
        ∙ ap (λ e. v j ⊗ e) (own o L p n distinct j n h (le_refl n)) ∙ mul_one o L (v j)

    -- and no other does
    pub through_only : (v c : ℕ → A) → ((i : ℕ) → i < n → sum o n (λ t. c t ⊗ pow o (p i) t) ≡ v i) → (t : ℕ) → t < n → c t ≡ through o p n v t
    through_only v c h = agree o L n c (through o p n v) p distinct (λ i k. h i k ∙ sym (through_at_lem v i k))
