-- What inner functions are told. Nothing here has to be believed.
-- Assumes nothing.
use Rattle.std.specs.Prelude.{◌≡◌, List, ℕ, ◌*◌, length}
use Rattle.layout.specs.declared.Layout.{Layout}
use Rattle.layout.specs.Layout.{trays, layers, Cabinet}

-- a cabinet's layout and a buffer for m codewords
pub record Writable (l : Layout) (m : ℕ) (c : List ℕ) : Type 0 where
  pub adm : Cabinet l
  pub long : length c ≡ trays l * layers l * m
