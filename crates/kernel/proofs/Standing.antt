-- How a run of numbers that need not be reduced grows by a write.
-- Assumes nothing.
use mathlib.Core.Path.{◌≡◌, refl, sym, ap, ap₂, ◌∙◌}
use mathlib.Core.List.{List}
use Prim.Native.Nat.{ℕ, ◌+◌, ◌<◌, ◌≤◌}
use native.Mathlib.Nat.{zero-add}
use native.Mathlib.Decide.{ℕ_discrete}
use native.Mathlib.Omega.{arith}
use lib.ListN.{length, get_or, set, length-set}
use lib.Seq.{get_or-set_same, get_or-set_other}
use Rattle.algebra.specs.Shape.{Field}
use Rattle.kernel.specs.Inner.{Run, copied, Standing, stepped, accrued}

module _ {A : Type 0} (f : Field A) where
  open f use {ops}
  open f.coding use {elem}

  standing_more : (g : ℕ → A) (was is : List ℕ) (to j v : ℕ) → Standing f g was is to j → to + j < length was → elem v ≡ g j → Standing f g was (set is (to + j) v) to (j + 1)
  standing_more g was is to j v r h e = record {
    long = length-set is (to + j) v ∙ r.long;
    done = λ i l. go i l (ℕ_discrete i j);
    low = λ i l. get_or-set_other is (to + j) i v 0 (λ q. omega arith) ∙ r.low i l;
    high = λ i l. get_or-set_other is (to + j) i v 0 (λ q. omega arith) ∙ r.high i (omega arith);
  }
    where
      inside : to + j < length is
      inside = let e = r.long in omega arith

      go : (i : ℕ) → i < j + 1 → Dec (i ≡ j) → elem (get_or (set is (to + j) v) (to + i) 0) ≡ g i
      go i l (yes q) = rw q (ap elem (get_or-set_same is (to + j) v 0 inside) ∙ e)
      go i l (no q) = ap elem (get_or-set_other is (to + j) (to + i) v 0 (λ p. q (omega arith))) ∙ r.done i (omega arith)

  -- as a run of whatever it holds
  pub standing_run : (g : ℕ → A) (was is : List ℕ) (to len : ℕ) → Standing f g was is to len → Run (copied is to) was is to len
  unfolding copied
  standing_run g was is to len r = record { long = r.long; done = λ j h. refl; low = r.low; high = r.high }

  -- the step of the kernel; p and q are what the symbol functions give
  pub accrue_more : (was is cw ci by : List ℕ) (to j len p q : ℕ) → Standing f (accrued f was to cw by) was is to j → Standing f (stepped f cw by) cw ci 0 j → j < len →
      to + len ≤ length was → elem p ≡ ops.mul (elem (get_or ci j 0)) (elem (get_or by j 0)) → elem q ≡ ops.add (elem (get_or is (to + j) 0)) (elem p) →
      Standing f (accrued f was to cw by) was (set is (to + j) q) to (j + 1)
  unfolding accrued
  accrue_more was is cw ci by to j len p q r s h l e d =
      standing_more (accrued f was to cw by) was is to j q r (omega arith)
      (d ∙ ap₂ ops.add (ap elem (r.high (to + j) (omega arith))) (e ∙ ap (λ (x : ℕ). ops.mul (elem x) (elem (get_or by j 0))) (s.high j (omega arith))))

  pub step_more : (cw ci by : List ℕ) (j len p : ℕ) → Standing f (stepped f cw by) cw ci 0 j → j < len → len ≤ length cw →
      elem p ≡ ops.mul (elem (get_or ci j 0)) (elem (get_or by j 0)) → Standing f (stepped f cw by) cw (set ci j p) 0 (j + 1)
  unfolding stepped
  step_more cw ci by j len p s h l e =
      rw (sym (ap (λ (i : ℕ). set ci i p) (zero-add j)))
      (standing_more (stepped f cw by) cw ci 0 j p s (omega arith) (e ∙ ap (λ (x : ℕ). ops.mul (elem x) (elem (get_or by j 0))) (s.high j (omega arith))))
