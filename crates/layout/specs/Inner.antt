-- What inner functions are told. Nothing here has to be believed.
-- Assumes nothing.
use Rattle.std.specs.Prelude.{ℕ, ◌<◌}
use Rattle.layout.specs.declared.Layout.{Layout}
use Rattle.layout.specs.Layout.{digits, layers, groups, Cabinet}

-- a group and a digit of a layout, for the host rack h
pub record InGroup (l : Layout) (h p a : ℕ) : Type 0 where
  pub adm : Cabinet l
  pub host_in : h < l.racks
  pub group_in : p < groups l
  pub digit_in : a < digits l

-- a layer of a layout, and the host rack h
pub record HasLayer (l : Layout) (h j : ℕ) : Type 0 where
  pub adm : Cabinet l
  pub host_in : h < l.racks
  pub layer_in : j < layers l
