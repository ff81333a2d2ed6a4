-- Codewords of document 01, over any field: a buffer of n·L numbers that lies tray after tray, c(x, j) at x·L + j.
-- Assumes nothing.
use Rattle.std.specs.Prelude.{◌≡◌, List, ℕ, ◌+◌, ◌-◌, ◌*◌, ◌%◌, ◌^◌, ◌<◌, ◌≤◌, length, get_or}
use Rattle.algebra.specs.Coding.{InRange}
use Rattle.algebra.specs.Lagrange.{check}
use Rattle.algebra.specs.Shape.{Field, FieldLaws, Shape, Fits}
use Rattle.algebra.specs.Cabinet.{layer_point}
use Rattle.layout.specs.declared.Layout.{Layout}
use Rattle.layout.specs.Layout.{trays, checks, digits, layers, groups, parity_racks}

module _ {A : Type 0} (f : Field A) (l : Layout) where
  -- the layout's numbers and the field's root, by which its points go
  abbrev pub shape_of : Shape A
  shape_of = record { ops = f.ops; root = f.root; order = f.order; racks = l.racks; size = l.size; digits = digits l }

  -- the symbol c(x, j) of tray x in layer j
  unfoldable pub symbol_at : List ℕ → ℕ → ℕ → A
  symbol_at c x j = f.coding.elem (get_or c (x * layers l + j) 0)

  -- the point of tray x in layer j
  unfoldable pub point_at : ℕ → ℕ → A
  point_at = layer_point shape_of

  -- the sum of check t in layer j
  unfoldable pub check_at : List ℕ → ℕ → ℕ → A
  check_at c j t = check f.ops (point_at j) (trays l) (λ x. symbol_at c x j) t

  -- a whole codeword: of the right length, each number a symbol, and every check of every layer zero
  pub record Codeword (c : List ℕ) : Type 0 where
    pub long : length c ≡ trays l * layers l
    pub symbols : InRange f.coding c
    pub holds : (j : ℕ) → j < layers l → (t : ℕ) → t < checks l → check_at c j t ≡ f.ops.zero

-- ---- what only code and proofs need
-- what the theorems ask of a field and a layout; every layout that is admissible for the field has it (`usable`)
pub record Usable {A : Type 0} (f : Field A) (l : Layout) : Type 0 where
  pub field : FieldLaws f
  pub fits : Fits (shape_of f l)

-- what the rule of repair in pieces asks besides: as many checks of a group as unknowns. Every such layout with E = 0 has it (`solvable`)
pub record Solvable {A : Type 0} (f : Field A) (l : Layout) : Type 0 where
  pub usable : Usable f l
  pub groups_are : groups l ≡ digits l ^ (l.racks - 1)
  pub total : parity_racks l + l.helpers ≡ digits l + (l.racks - 1)
  pub few : l.helpers ≤ l.racks - 1
  pub enough : (w m : ℕ) → w < parity_racks l → m + l.dimension % l.size < l.size → l.size * w + m < checks l
