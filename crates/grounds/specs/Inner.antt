-- What inner functions are told and give. Nothing here has to be believed.
-- Assumes nothing.
use Rattle.std.specs.Prelude.{List, ℕ, ◌/◌, eqb, leb, length}
use Rattle.lists.specs.Lists.{unless, absent}
use Rattle.layout.specs.declared.Layout.{Layout}
use Rattle.layout.specs.Layout.{groups, lost_count_fits}
use Rattle.rule.specs.Lost.{first_lost}

-- the grounds of a repair after those that the numbers in the lists and the symbols give
unfoldable pub count_refusal : Layout → List ℕ → List ℕ → ℕ → ℕ
count_refusal l lost helpers first =
    unless (eqb (length helpers) l.helpers) 5
    (unless (lost_count_fits l (length lost)) 12
    (unless (absent helpers (first_lost l lost / l.size)) 6
    (unless (leb first (groups l)) 7
    0)))
