-- Grounds of a repair that hang on numbers alone.
-- Assumes nothing.
use Rattle.std.specs.Prelude.{Bool, List, ℕ, ◌/◌, eqb, length, get_or}
use Rattle.lists.specs.Lists.{all}
use Rattle.layout.specs.declared.Layout.{Layout}
use Rattle.rule.specs.Lost.{first_lost}

-- every tray of a list stands in the rack of the first one listed
unfoldable pub one_rack : Layout → List ℕ → Bool
one_rack l lost = all (λ i. eqb (get_or lost i 0 / l.size) (first_lost l lost / l.size)) (length lost)
