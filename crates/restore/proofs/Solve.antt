-- A block solved: the symbols found are those that the checks determine.
-- Assumes nothing.
use mathlib.Core.Path.{◌≡◌, refl, sym, ap, ◌∙◌}
use mathlib.Core.List.{List}
use Prim.Native.Nat.{ℕ, ◌+◌, ◌<◌, ◌≤◌}
use native.Mathlib.Omega.{arith}
use lib.ListN.{length}
use Rattle.algebra.specs.Lagrange.{check}
use Rattle.algebra.specs.Erasure.{zeros, rest, erased}
use Rattle.algebra.proofs.Ring.{zero_add}
use Rattle.algebra.specs.Shape.{Field}
use Rattle.algebra.specs.Plain.{Working}
use Rattle.kernel.specs.Inner.{cell}
use Rattle.layout.specs.declared.Layout.{Layout}
use Rattle.layout.specs.Layout.{trays}
use Rattle.codeword.specs.Codeword.{symbol_at, point_at}
use Rattle.solving.proofs.Solve.{solve_same}
use Rattle.syndrome.specs.Inner.{entry_of, survivor_at, Sums}
use Rattle.solving.specs.Inner.{FoundBlock}
use Rattle.restore.specs.Inner.{erased_at}

module _ {A : Type 0} {f : Field A} (W : Working f) where
  open f use {ops}
  open W.field use {laws}

  module _ (l : Layout) (w first : ℕ) (es c sums : List ℕ) (r : ℕ) (few : length es ≤ r) (s : (Sums f) l w first r c es (trays l) sums) (j : ℕ) (hj : j < w) where
    -- the sums are the checks of the survivors
    pub sums_check : (t : ℕ) → t < r → cell f w sums t j ≡ check ops (point_at f l (first + j)) (trays l) (survivor_at f l es c (first + j)) t
    unfolding check
    sums_check t h = s.at t j h hj

    right_side : (t : ℕ) → t < length es → ops.neg (cell f w sums t j) ≡ rest ops (point_at f l (first + j)) (trays l) (entry_of es) (length es) (zeros ops) (λ y. symbol_at f l c y (first + j)) t
    unfolding rest survivor_at
    right_side t h = ap ops.neg (sums_check t (omega arith)) ∙ sym (zero_add ops laws _)

    pub found_erased : (found : List ℕ) → FoundBlock f l w first es sums found → (k : ℕ) → k < length es → cell f w found k j ≡ erased_at f l es c (first + j) k
    unfolding erased_at erased
    found_erased found z k h = z.at k j h hj ∙ solve_same W (length es) _ _ _ _ (λ i q. refl) right_side k h
