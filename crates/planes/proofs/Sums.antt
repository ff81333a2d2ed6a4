-- Rows times their symbols, row after row.
-- Assumes nothing.
use mathlib.Core.Path.{◌≡◌, refl, sym, ap, ◌∙◌}
use mathlib.Core.List.{List}
use Prim.Native.Nat.{ℕ, ◌+◌, ◌*◌, ◌≤◌}
use native.Mathlib.Omega.{arith}
use lib.ListN.{get_or}
use Rattle.algebra.specs.Sum.{sum}
use Rattle.algebra.specs.Shape.{Field}
use Rattle.algebra.specs.Plain.{times, Working}
use Rattle.algebra.proofs.Sum.{sum_zero, sum_add_one}
use Rattle.algebra.proofs.Plain.{elem_zero, elem_plus, elem_times, plus_below, zero_below}
use Rattle.kernel.specs.Inner.{cell, Run, filled, added_multiple}
use Rattle.kernel.proofs.Rows.{row_other}
use Rattle.planes.specs.Inner.{Summed}

module _ {A : Type 0} {f : Field A} (W : Working f) (w i : ℕ) (sums coefs : List ℕ) (at : ℕ) where
  open f use {ops}
  open f.coding use {elem}

  pub summed_none : (was is : List ℕ) → Run (filled 0) was is (i * w) w → Summed f w 0 i sums coefs at is is
  unfolding cell filled
  summed_none was is r = record {
    long = refl;
    here = λ j h. ap elem (r.done j h) ∙ elem_zero W ∙ sym (sum_zero ops _);
    small = λ j h. rw (r.done j h) (zero_below W);
    others = λ x j h d. refl;
  }

  pub summed_more : (n x : ℕ) (was is new : List ℕ) → Summed f w n i sums coefs at was is → x ≡ get_or coefs (at + n) 0 → Run (added_multiple f is (i * w) sums (n * w) x) is new (i * w) w →
      Summed f w (n + 1) i sums coefs at was new
  unfolding cell added_multiple
  summed_more n x was is new g e r = record {
    long = r.long ∙ g.long;
    here = λ j h.
        ap elem (r.done j h) ∙ elem_plus W (get_or is (i * w + j) 0) (times f (get_or sums (n * w + j) 0) x)
        ∙ ap (ops.add (elem (get_or is (i * w + j) 0))) (elem_times W (get_or sums (n * w + j) 0) x ∙ ap (λ (y : ℕ). ops.mul (elem (get_or sums (n * w + j) 0)) (elem y)) e)
        ∙ ap (λ y. ops.add y (ops.mul (elem (get_or sums (n * w + j) 0)) (elem (get_or coefs (at + n) 0)))) (g.here j h)
        ∙ sym (sum_add_one ops n (λ t. ops.mul (cell f w sums t j) (elem (get_or coefs (at + t) 0))));
    small = λ j h. rw (r.done j h) (plus_below W _ _);
    others = λ y j h d. row_other _ is new i w r y j h d ∙ g.others y j h d;
  }

  pub summed_end : (n m : ℕ) (was mid is : List ℕ) → Run (filled 0) was mid (i * w) w → Summed f w n i sums coefs at mid is → n ≤ m → m ≤ n → Summed f w m i sums coefs at was is
  summed_end n m was mid is r g h l =
      let e : n ≡ m = omega arith in
      record {
        long = g.long ∙ r.long;
        here = λ j k. g.here j k ∙ ap (λ b. sum ops b (λ t. ops.mul (cell f w sums t j) (elem (get_or coefs (at + t) 0)))) e;
        small = g.small;
        others = λ x j k d. g.others x j k d ∙ row_other _ was mid i w r x j k d;
      }
