-- The grounds of the calls of repair cards before the last one, in order: for a lost tray x, its helpers and a group.
-- Assumes nothing.
use Rattle.std.specs.Prelude.{Bool, ◌&&◌, List, ℕ, ◌/◌, eqb, ltb, length}
use Rattle.lists.specs.Lists.{unless, all_below, strictly_rising, absent}
use Rattle.algebra.specs.Shape.{Field}
use Rattle.layout.specs.declared.Layout.{Layout}
use Rattle.layout.specs.Layout.{trays, groups, admissible_with}

-- the tray, the helpers and the group are numbers of the layout
unfoldable pub in_layout : Layout → ℕ → List ℕ → ℕ → Bool
in_layout l x helpers group = ltb x (trays l) && all_below helpers l.racks && ltb group (groups l)

-- the grounds that the helpers give as a list; 0 for none
unfoldable pub helpers_ground : Layout → ℕ → List ℕ → ℕ
helpers_ground l x helpers =
    unless (strictly_rising helpers) 4
    (unless (eqb (length helpers) l.helpers) 5
    (unless (absent helpers (x / l.size)) 6
    0))

-- all of them, given whether every lent buffer has its length and whether every number that the call looks at is a symbol; 0 for none. Repair cards are for
-- E = 0 (W12)
unfoldable pub card_ground : {A : Type 0} → Field A → Layout → ℕ → List ℕ → ℕ → Bool → Bool → ℕ
card_ground f l x helpers group long seen =
    unless (admissible_with f.order 0 l) 1
    (unless long 2
    (unless (in_layout l x helpers group && seen) 3
    (helpers_ground l x helpers)))
