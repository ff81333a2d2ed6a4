-- What inner functions are told. Nothing here has to be believed.
-- Assumes nothing.
use Rattle.std.specs.Prelude.{◌≡◌, List, ℕ, ◌+◌, ◌*◌, length}
use Rattle.lists.specs.Lists.{table}
use Rattle.layout.specs.declared.Layout.{Layout}
use Rattle.layout.specs.Layout.{trays, checks, layers, Cabinet}

-- the trays after the data
abbrev pub parity_trays : Layout → List ℕ
parity_trays l = table (λ i. l.dimension + i) (checks l)

-- a cabinet's layout and a buffer of the right length
pub record Writable (l : Layout) (c : List ℕ) : Type 0 where
  pub adm : Cabinet l
  pub long : length c ≡ trays l * layers l
