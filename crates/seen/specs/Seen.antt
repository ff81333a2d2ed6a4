-- What a call of a repair looks at: the symbols of its own groups, `count` from the group `first` on.
-- Assumes nothing.
use Rattle.std.specs.Prelude.{Bool, true, cond, ◌&&◌, List, ℕ, ◌+◌, ◌-◌, ◌*◌, ◌/◌, min, eqb, leb, ltb, length}
use Rattle.lists.specs.Lists.{all, absent}
use Rattle.algebra.specs.Shape.{Field}
use Rattle.algebra.specs.Layers.{group_of}
use Rattle.layout.specs.declared.Layout.{Layout}
use Rattle.layout.specs.Layout.{digits, layers, groups}
use Rattle.range.specs.Range.{symbols_from, symbol_rows}
use Rattle.rule.specs.Lost.{first_lost}

module _ {A : Type 0} (f : Field A) where
  -- that of the tray at place g of the host rack h in layer j, where the layer is of one of these groups
  unfoldable pub layer_symbol : Layout → ℕ → List ℕ → ℕ → ℕ → ℕ → ℕ → Bool
  layer_symbol l h host first count g j =
      cond (leb first (group_of (digits l) h j) && ltb (group_of (digits l) h j) (first + count)) (symbols_from f host (g * layers l + j) 1) true

  -- those of the tray at place g, unless it is listed as lost
  unfoldable pub sound_symbols : Layout → List ℕ → ℕ → List ℕ → ℕ → ℕ → ℕ → Bool
  sound_symbols l lost h host first count g = cond (absent lost (h * l.size + g)) (all (layer_symbol l h host first count g) (layers l)) true

  -- so many of the groups are left as the budget allows; with no lost tray nothing is looked at
  unfoldable pub piece_symbols : Layout → List ℕ → List ℕ → List ℕ → ℕ → ℕ → Bool
  piece_symbols l lost shares host first budget =
      cond (eqb (length lost) 0) true
      (symbol_rows f shares (length lost * l.helpers) (groups l) first (min budget (groups l - first))
      && all (sound_symbols l lost (first_lost l lost / l.size) host first (min budget (groups l - first))) l.size)
