-- What a symbol is after all digits.
-- Assumes nothing.
use mathlib.Core.Path.{◌≡◌, sym, ap, ap₂, ◌∙◌}
use mathlib.Core.Bool.{Bool, cond}
use Prim.Native.Nat.{ℕ, zero, suc, ◌+◌, ◌*◌, ◌<◌, ◌≤◌}
use native.Mathlib.Nat.{zero-mul}
use native.Mathlib.Decide.{ℕ_discrete}
use native.Mathlib.Omega.{arith}
use lib.Dec.{eqb}
use borrow.Author.Tests.{eq-eqb, ne_eqb}
use Rattle.algebra.specs.Sum.{pow}
use Rattle.algebra.specs.Shape.{Field}
use Rattle.algebra.specs.Plain.{root_power, Working}
use Rattle.algebra.proofs.Ring.{one_mul, add_zero}
use Rattle.algebra.proofs.Pow.{pow_zero, pow_add}
use Rattle.algebra.proofs.Plain.{elem_plus, elem_zero, elem_root_power}
use Rattle.horner.specs.Inner.{scaled, stepped, through}
use Rattle.horner.proofs.Loops.{elem_scaled}

module _ {A : Type 0} {f : Field A} (W : Working f) where
  open f use {ops, root, order}
  open f.coding use {elem}
  open W.field use {laws}

  power_apart : (e n : ℕ) → e < order → n < order → root_power f e ≡ root_power f n → e ≡ n
  power_apart e n h k q = W.field.root.apart e n h k (sym (elem_root_power W e) ∙ ap elem q ∙ elem_root_power W n)

  step_is : (t y d p x : ℕ) → elem (stepped f t y d p x) ≡ ops.add (ops.mul (pow ops root t) (elem x)) (elem (cond (eqb d p) y 0))
  unfolding stepped
  step_is t y d p x = elem_plus W (scaled f t x) (cond (eqb d p) y 0) ∙ ap (λ v. ops.add v (elem (cond (eqb d p) y 0))) (elem_scaled W t x)

  step_none : (t y d p x : ℕ) → ¬ (d ≡ p) → elem (stepped f t y d p x) ≡ ops.mul (pow ops root t) (elem x)
  step_none t y d p x n =
      step_is t y d p x ∙ ap (ops.add (ops.mul (pow ops root t) (elem x))) (ap (λ (b : Bool). elem (cond b y 0)) (ne_eqb d p n) ∙ elem_zero W) ∙ add_zero ops laws _

  step_one : (t y d p x : ℕ) → d ≡ p → elem (stepped f t y d p x) ≡ ops.add (ops.mul (pow ops root t) (elem x)) (elem y)
  step_one t y d p x e = step_is t y d p x ∙ ap (λ (b : Bool). ops.add (ops.mul (pow ops root t) (elem x)) (elem (cond b y 0))) (eq-eqb d p e)

  next_power : (n t : ℕ) (x : A) → ops.mul (pow ops root (n * t)) (ops.mul (pow ops root t) x) ≡ ops.mul (pow ops root (suc n * t)) x
  next_power n t x = sym (laws.mul_assoc _ _ _) ∙ ap (λ y. ops.mul y x) (sym (pow_add ops laws root (n * t) t) ∙ ap (pow ops root) (count n t))
    where
      count : (n t : ℕ) → n * t + t ≡ suc n * t
      count n t = omega arith

  -- digits below that of the symbol
  below : (t y e n x : ℕ) → e < order → n ≤ e → elem (through f t y (root_power f e) n x) ≡ ops.mul (pow ops root (n * t)) (elem x)
  unfolding through
  below t y e zero x h k = sym (ap (λ v. ops.mul v (elem x)) (ap (pow ops root) (zero-mul t) ∙ pow_zero ops root) ∙ one_mul ops laws (elem x))
  below t y e (suc n) x h k =
      below t y e n (stepped f t y (root_power f e) (root_power f n) x) h (omega arith)
      ∙ ap (ops.mul (pow ops root (n * t))) (step_none t y (root_power f e) (root_power f n) x (λ q. absurd (let d = power_apart e n h (omega arith) q in omega arith))) ∙ next_power n t (elem x)

  -- all digits
  pub through_is : (t y e n x : ℕ) → n ≤ order → e < n →
      elem (through f t y (root_power f e) n x) ≡ ops.add (ops.mul (pow ops root (n * t)) (elem x)) (ops.mul (pow ops root (e * t)) (elem y))
  unfolding through
  through_is t y e zero x h k = absurd (omega arith)
  through_is t y e (suc n) x h k = go (ℕ_discrete e n) (through_is t y e n (stepped f t y (root_power f e) (root_power f n) x) (omega arith))
    where
      next : ℕ
      next = stepped f t y (root_power f e) (root_power f n) x

      go : Dec (e ≡ n) → (e < n → elem (through f t y (root_power f e) n next) ≡ ops.add (ops.mul (pow ops root (n * t)) (elem next)) (ops.mul (pow ops root (e * t)) (elem y))) →
          elem (through f t y (root_power f e) n next) ≡ ops.add (ops.mul (pow ops root (suc n * t)) (elem x)) (ops.mul (pow ops root (e * t)) (elem y))
      go (yes q) ih =
          below t y e n next (omega arith) (omega arith)
          ∙ ap (ops.mul (pow ops root (n * t))) (step_one t y (root_power f e) (root_power f n) x (ap (root_power f) q))
          ∙ laws.mul_add (pow ops root (n * t)) (ops.mul (pow ops root t) (elem x)) (elem y)
          ∙ ap₂ (λ a b. ops.add a (ops.mul (pow ops root (b * t)) (elem y))) (next_power n t (elem x)) (sym q)
      go (no d) ih =
          ih (omega arith)
          ∙ ap (λ v. ops.add v (ops.mul (pow ops root (e * t)) (elem y)))
          (ap (ops.mul (pow ops root (n * t))) (step_none t y (root_power f e) (root_power f n) x (λ q. d (power_apart e n (omega arith) (omega arith) q))) ∙ next_power n t (elem x))
