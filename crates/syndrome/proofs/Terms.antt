-- How the sums of the checks grow by a tray's terms.
-- Assumes nothing.
use mathlib.Core.Path.{◌≡◌, refl, sym, ap, ap₂, ◌∙◌, subst}
use mathlib.Core.List.{List}
use Prim.Native.Nat.{ℕ, zero, suc, ◌+◌, ◌*◌, ◌<◌, ◌≤◌}
use native.Mathlib.Nat.{zero-add}
use native.Mathlib.Decide.{ℕ_discrete}
use native.Mathlib.Omega.{arith}
use lib.ListN.{get_or}
use Rattle.algebra.specs.Sum.{pow}
use Rattle.algebra.proofs.Pow.{pow_zero, pow_one, pow_add_one}
use Rattle.algebra.proofs.Ring.{one_mul, mul_comm, mul_assoc}
use Rattle.algebra.specs.Shape.{Field}
use Rattle.algebra.specs.Plain.{Working}
use Rattle.algebra.proofs.Plain.{elem_plus}
use Rattle.kernel.specs.Inner.{cell, Run, Standing, copied, added, accrued, stepped}
use Rattle.kernel.proofs.Standing.{standing_run}
use Rattle.kernel.proofs.Rows.{cell_other, row_zero, zero_cell}
use Rattle.syndrome.specs.Inner.{term, Terms, Later, Adding}

module _ {A : Type 0} {f : Field A} (W : Working f) where
  open f use {ops}
  open f.coding use {elem}
  open W.field use {laws}

  pub adding_none : (w : ℕ) (row cur was : List ℕ) → Adding f w row cur was was cur 1
  adding_none w row cur was = record {
    first = λ j h. refl;
    at = λ v j p h k. absurd (omega arith);
    rest = λ v j h k. refl;
    current = λ j h. ap (λ y. ops.mul y (elem (get_or cur j 0))) (sym (pow_one ops laws (elem (get_or row j 0))));
  }

  module _ (w t : ℕ) (row was is old new : List ℕ) where
    accrued_row : Standing f (accrued f was (t * w) old row) was is (t * w) w → (j : ℕ) → j < w → cell f w is t j ≡ ops.add (cell f w was t j) (ops.mul (elem (get_or row j 0)) (elem (get_or old j 0)))
    unfolding cell accrued
    accrued_row r j h = r.done j h ∙ ap (ops.add (elem (get_or was (t * w + j) 0))) (mul_comm ops laws _ _)

    stepped_row : Standing f (stepped f old row) old new 0 w → (j : ℕ) → j < w → elem (get_or new j 0) ≡ ops.mul (elem (get_or row j 0)) (elem (get_or old j 0))
    unfolding stepped
    stepped_row r j h = ap (λ i. elem (get_or new i 0)) (sym (zero-add j)) ∙ r.done j h ∙ mul_comm ops laws _ _

  pub adding_more : (w t : ℕ) (row cur was is next old new : List ℕ) → 1 ≤ t → Adding f w row cur was is old t → Standing f (accrued f is (t * w) old row) is next
      (t * w) w → Standing f (stepped f old row) old new 0 w →
      Adding f w row cur was next new (t + 1)
  adding_more w t row cur was is next old new ht g r s = record {
    first = λ j h. cell_other f _ is next t w run 0 j h (λ e. omega arith) ∙ g.first j h;
    at = λ v j p h k. go v j p h k (ℕ_discrete v t);
    rest = λ v j h k. cell_other f _ is next t w run v j k (λ e. omega arith) ∙ g.rest v j (omega arith) k;
    current = λ j h.
        ap (ops.mul (elem (get_or row j 0))) (stepped_row w t row is next old new s j h ∙ g.current j h)
        ∙ sym (mul_assoc ops laws (elem (get_or row j 0)) (pow ops (elem (get_or row j 0)) t) (elem (get_or cur j 0)))
        ∙ ap (λ y. ops.mul y (elem (get_or cur j 0))) (sym (pow_add_one ops (elem (get_or row j 0)) t));
  }
    where
      run : Run (copied next (t * w)) is next (t * w) w
      run = standing_run f _ is next (t * w) w r

      go : (v j : ℕ) → 0 < v → v < t + 1 → j < w → Dec (v ≡ t) → cell f w next v j ≡ ops.add (cell f w was v j) (term f row cur v j)
      go v j p h k (yes e) =
          subst (λ n. cell f w next n j ≡ ops.add (cell f w was n j) (term f row cur n j)) (sym e)
          (accrued_row w t row is next old new r j k ∙ ap₂ ops.add (g.rest t j (omega arith) k) (g.current j k))
      go v j p h k (no d) = cell_other f _ is next t w run v j k d ∙ g.at v j p (omega arith) k

  added_at : (was cur : List ℕ) (j : ℕ) → elem (added f was 0 cur 0 j) ≡ ops.add (elem (get_or was (0 + j) 0)) (elem (get_or cur j 0))
  unfolding added
  added_at was cur j = elem_plus W (get_or was (0 + j) 0) (get_or cur (0 + j) 0) ∙ ap (λ i. ops.add (elem (get_or was (0 + j) 0)) (elem (get_or cur i 0))) (zero-add j)

  pub first_row : (w : ℕ) (cur was mid : List ℕ) → Run (added f was 0 cur 0) was mid 0 w → (j : ℕ) → j < w → cell f w mid 0 j ≡ ops.add (cell f w was 0 j) (elem (get_or cur j 0))
  first_row w cur was mid a j k =
      row_zero f _ was mid w a j k ∙ added_at was cur j ∙ ap (λ y. ops.add y (elem (get_or cur j 0))) (sym (zero_cell f w was j))

  pub terms_of : (w r : ℕ) (row cur was mid is : List ℕ) → Run (added f was 0 cur 0) was mid 0 w → Later f w r row cur mid is → Terms f w r row cur was is
  terms_of w r row cur was mid is a l = record { at = at }
    where
      at_zero : Run (added f was 0 cur 0) was mid (0 * w) w
      at_zero = let e : 0 ≡ 0 * w = omega arith in subst (λ n. Run (added f was 0 cur 0) was mid n w) e a

      at : (t j : ℕ) → t < r → j < w → cell f w is t j ≡ ops.add (cell f w was t j) (term f row cur t j)
      at zero j h k =
          l.first j k ∙ first_row w cur was mid a j k
          ∙ ap (ops.add (cell f w was 0 j)) (sym (ap (λ y. ops.mul y (elem (get_or cur j 0))) (pow_zero ops (elem (get_or row j 0))) ∙ one_mul ops laws (elem (get_or cur j 0))))
      at (suc t) j h k =
          l.at (suc t) j (omega arith) h k ∙ ap (λ y. ops.add y (term f row cur (suc t) j)) (cell_other f _ was mid 0 w at_zero (suc t) j k (λ e. omega arith))

-- ---- places
