-- What inner functions give, and what proofs speak of. Nothing here has to be believed.
-- Assumes nothing.
use Rattle.std.specs.Prelude.{◌≡◌, Bool, true, cond, List, ℕ, ◌*◌, ◌<◌, length, get_or}
use Rattle.lists.specs.Lists.{absent}
use Rattle.algebra.specs.Shape.{Field}
use Rattle.range.specs.Range.{symbols_from}

-- tray x of so many layers is listed, or all its numbers are symbols
unfoldable pub kept_tray : {A : Type 0} → Field A → List ℕ → List ℕ → ℕ → ℕ → Bool
kept_tray f es c total x = cond (absent es x) (symbols_from f c (x * total) total) true

-- tray x is not in the list
abbrev pub Kept : List ℕ → ℕ → Type 0
Kept es x = (k : ℕ) → k < length es → ¬ (x ≡ get_or es k 0)
