-- The steps of the loops over any field.
-- Assumes nothing.
use mathlib.Core.Path.{◌≡◌, refl, sym, ap, ap₂, ◌∙◌}
use mathlib.Core.Bool.{cond}
use mathlib.Core.List.{List}
use Prim.Native.Nat.{ℕ, suc, ◌+◌, ◌-◌, ◌*◌, ◌<◌, ◌≤◌}
use native.Mathlib.Omega.{arith}
use lib.Dec.{eqb}
use lib.ListN.{length, get_or, set}
use Rattle.algebra.specs.Sum.{pow}
use Rattle.algebra.specs.Shape.{Field}
use Rattle.algebra.specs.Plain.{plus, root_power, Working}
use Rattle.algebra.proofs.Ring.{one_mul, mul_assoc}
use Rattle.algebra.proofs.Pow.{pow_zero, pow_add}
use Rattle.kernel.specs.Inner.{Run}
use Rattle.kernel.proofs.Runs.{run_more}
use Rattle.horner.specs.Inner.{scaled, scaled_run, Scaled, stepped, stepped_run, through, through_run, Left}

module _ {A : Type 0} {f : Field A} (W : Working f) where
  open f use {ops, root}
  open f.coding use {elem, val, size}
  open W.field use {laws, coded}

  pub elem_scaled : (t x : ℕ) → elem (scaled f t x) ≡ ops.mul (pow ops root t) (elem x)
  unfolding scaled
  elem_scaled t x = coded.elem_val _

  no_power : (x : A) → ops.mul (pow ops root 0) x ≡ x
  no_power x = ap (λ y. ops.mul y x) (pow_zero ops root) ∙ one_mul ops laws x

  pub scaled_none : (x : ℕ) → x < size → x ≡ scaled f 0 x
  unfolding scaled
  scaled_none x h = sym (coded.val_elem x h) ∙ ap val (sym (no_power (elem x)))

  pub raise_more : (was is : List ℕ) (to t j len p : ℕ) → Run (scaled_run f was to t) was is to j → j < len → to + len ≤ length was → p ≡ scaled f t (get_or is (to + j) 0) →
      Run (scaled_run f was to t) was (set is (to + j) p) to (j + 1)
  unfolding scaled_run
  raise_more was is to t j len p r h l e = run_more (scaled_run f was to t) was is to j p r (omega arith) (e ∙ ap (scaled f t) (r.high (to + j) (omega arith)))

  pub step_more : (was is cur row : List ℕ) (to p t j len v y q : ℕ) → Run (stepped_run f was to cur row p t) was is to j → j < len → to + len ≤ length was →
      v ≡ scaled f t (get_or is (to + j) 0) → y ≡ cond (eqb (get_or row j 0) p) (get_or cur j 0) 0 → q ≡ plus f v y →
      Run (stepped_run f was to cur row p t) was (set is (to + j) q) to (j + 1)
  unfolding stepped_run stepped
  step_more was is cur row to p t j len v y q r h l ev ey eq =
      run_more (stepped_run f was to cur row p t) was is to j q r (omega arith) (eq ∙ ap₂ (plus f) (ev ∙ ap (scaled f t) (r.high (to + j) (omega arith))) ey)

  -- four doublings after four
  pub fours_none : (was : List ℕ) (to len : ℕ) → Scaled f 0 was was to len
  fours_none was to len = record {
    long = refl;
    done = λ j h. sym (no_power (elem (get_or was (to + j) 0)));
    low = λ i h. refl;
    high = λ i h. refl;
  }

  pub fours_more : (n : ℕ) (was is next : List ℕ) (to len : ℕ) → Scaled f (4 * n) was is to len → Run (scaled_run f is to 4) is next to len → Scaled f (4 * (n + 1)) was next to len
  unfolding scaled_run
  fours_more n was is next to len s r = record {
    long = r.long ∙ s.long;
    done = λ j b.
        ap elem (r.done j b) ∙ elem_scaled 4 (get_or is (to + j) 0) ∙ ap (ops.mul (pow ops root 4)) (s.done j b)
        ∙ sym (mul_assoc ops laws _ _ _) ∙ ap (λ y. ops.mul y (elem (get_or was (to + j) 0))) (sym (pow_add ops laws root 4 (4 * n)) ∙ ap (pow ops root) more);
    low = λ i b. r.low i b ∙ s.low i b;
    high = λ i b. r.high i b ∙ s.high i b;
  }
    where
      more : 4 + 4 * n ≡ 4 * (n + 1)
      more = omega arith

  -- and the rest with the digit
  pub step_join : (t k n p : ℕ) (was mid is cur row : List ℕ) (to len : ℕ) → Scaled f (t - k) was mid to len → k ≤ t → k ≡ n → Run (stepped_run f mid to cur row p n) mid is to len →
      Run (stepped_run f was to cur row p t) was is to len
  unfolding stepped_run stepped scaled
  step_join t k n p was mid is cur row to len s h e r = record {
    long = r.long ∙ s.long;
    done = λ j b.
        r.done j b
        ∙ ap (λ y. plus f (val y) (cond (eqb (get_or row j 0) p) (get_or cur j 0) 0))
        (ap (ops.mul (pow ops root n)) (s.done j b) ∙ sym (mul_assoc ops laws _ _ _)
        ∙ ap (λ y. ops.mul y (elem (get_or was (to + j) 0))) (sym (pow_add ops laws root n (t - k)) ∙ ap (pow ops root) all));
    low = λ i b. r.low i b ∙ s.low i b;
    high = λ i b. r.high i b ∙ s.high i b;
  }
    where
      all : n + (t - k) ≡ t
      all = omega arith

  pub step_four : (t k p : ℕ) (was mid is cur row : List ℕ) (to len : ℕ) → Scaled f (t - k) was mid to len → k ≤ t → 0 < k → k ≤ 4 → ¬ (k ≡ 1) → ¬ (k ≡ 2) → ¬ (k ≡ 3) →
      Run (stepped_run f mid to cur row p 4) mid is to len → Run (stepped_run f was to cur row p t) was is to len
  step_four t k p was mid is cur row to len s h a b x y z r = step_join t k 4 p was mid is cur row to len s h (omega arith) r

  -- digit after digit
  pub steps_next : (n a t p : ℕ) (cur row was is next : List ℕ) (to len : ℕ) → 0 < a → p ≡ root_power f (a - 1) → Left f n a t cur row was is to len →
      Run (stepped_run f is to cur row p t) is next to len → Left f n (a - 1) t cur row was next to len
  unfolding through_run stepped_run
  steps_next n a t p cur row was is next to len h e s r = record {
    long = r.long ∙ s.long;
    same = λ j b.
        s.same j b ∙ ap (λ k. through f t (get_or cur j 0) (get_or row j 0) k (get_or is (to + j) 0)) more ∙ through_suc (get_or cur j 0) (get_or row j 0) (get_or is (to + j) 0)
        ∙ ap (through f t (get_or cur j 0) (get_or row j 0) (a - 1)) (sym (r.done j b ∙ ap (λ q. stepped f t (get_or cur j 0) (get_or row j 0) q (get_or is (to + j) 0)) e));
    low = λ i b. r.low i b ∙ s.low i b;
    high = λ i b. r.high i b ∙ s.high i b;
  }
    where
      more : a ≡ suc (a - 1)
      more = omega arith

      through_suc : (y d x : ℕ) → through f t y d (suc (a - 1)) x ≡ through f t y d (a - 1) (stepped f t y d (root_power f (a - 1)) x)
      through_suc y d x = unfold through in refl

  pub steps_end : (n a t : ℕ) (cur row was is : List ℕ) (to len : ℕ) → a ≤ 0 → Left f n a t cur row was is to len → Run (through_run f was to cur row n t) was is to len
  steps_end n a t cur row was is to len h s = record { long = s.long; done = λ j b. sym (s.same j b ∙ none j); low = s.low; high = s.high }
    where
      none : (j : ℕ) → through_run f is to cur row a t j ≡ get_or is (to + j) 0
      none j = let e : a ≡ 0 = omega arith in ap (λ k. through_run f is to cur row k t j) e ∙ bare j
        where
          bare : (j : ℕ) → through_run f is to cur row 0 t j ≡ get_or is (to + j) 0
          bare j = unfold through_run through in refl
