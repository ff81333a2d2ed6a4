-- A layer has a solution exactly when the symbols that the checks determine meet all of them, over any field.
-- Assumes nothing.
use mathlib.Core.Path.{sym, ap, ◌∙◌}
use mathlib.Core.List.{List}
use Prim.Native.Nat.{ℕ, ◌<◌}
use lib.ListN.{length}
use Rattle.algebra.specs.Shape.{Field}
use Rattle.algebra.specs.Erasure.{zeros}
use Rattle.algebra.specs.Repair.{restored}
use Rattle.algebra.specs.Cabinet.{layer_point}
use Rattle.algebra.proofs.Erasure.{survivors}
use Rattle.algebra.proofs.Restore.{points_distinct, restored_others}
use Rattle.layout.specs.declared.Layout.{Layout}
use Rattle.layout.specs.Layout.{trays, checks, layers}
use Rattle.codeword.specs.Codeword.{shape_of, symbol_at, point_at, Usable}
use Rattle.recover.specs.Recover.{Survivors}
use Rattle.syndrome.specs.Inner.{entry_of, Listed}
use Rattle.restore.specs.Inner.{restored_at, LayerFits}
use Rattle.test_kept.specs.TestKept.{Solution}

module _ {A : Type 0} (f : Field A) (l : Layout) (ok : Usable f l) (es c : List ℕ) (listed : Listed l es) (j : ℕ) where
  pub solution_of : LayerFits f l es c j → Solution f l es c j
  solution_of g = record {
    symbol = λ x. restored_at f l es c x j;
    survivors = λ x h k. restored_others (shape_of f l) ok.fits (entry_of es) (length es) listed.places (symbol_at f l c) x j k;
    holds = g;
  }

  pub fits_of : Solution f l es c j → LayerFits f l es c j
  unfolding restored point_at
  fits_of s t h =
      (survivors f.ops ok.fits.laws (layer_point (shape_of f l) j) (trays l) (entry_of es) (length es) listed.places
      (points_distinct (shape_of f l) ok.fits j) (zeros f.ops)
      (λ y. symbol_at f l c y j) s.symbol (checks l) listed.few (record { at = λ x hx k. sym (s.survivors x hx k) })
      (record { at = s.holds })).at t h

-- the solutions of a layer depend on the survivors
pub solution_moved : {A : Type 0} (f : Field A) (l : Layout) (es c c' : List ℕ) → Survivors l es c c' → (j : ℕ) → j < layers l →
    Solution f l es c j → Solution f l es c' j
unfolding symbol_at
solution_moved f l es c c' s j h g = record {
  symbol = g.symbol;
  survivors = λ x hx k. g.survivors x hx k ∙ ap f.coding.elem (sym (s.same x j hx h k));
  holds = g.holds;
}
