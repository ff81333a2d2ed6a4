-- What the functions of a piece of a repair are told and give: its blocks of groups, and room to work in. Nothing here has to be believed.
-- Assumes nothing.
use Rattle.std.specs.Prelude.{◌≡◌, List, ℕ, ◌+◌, ◌*◌, ◌≤◌, length}
use Rattle.layout.specs.declared.Layout.{Layout}
use Rattle.layout.specs.Layout.{digits, layers, groups, parity_racks, tray_limit, AdmissibleWith}
use Rattle.blocks.specs.Inner.{block_limit, room_limit}
use Rattle.rule.specs.Lost.{Losses}

-- rows enough for the R unknowns of a group and for its host sums, with e lost trays
pub record Rows (l : Layout) (e rows : ℕ) : Type 0 where
  pub unknowns : parity_racks l ≤ rows
  pub sums : e * digits l ≤ rows
  pub few : rows ≤ tray_limit

-- so a block of w groups fits rooms of n symbols
pub record Fitting (l : Layout) (e w n : ℕ) : Type 0 where
  pub small : w ≤ block_limit
  pub unknowns : parity_racks l * w ≤ n
  pub sums : e * digits l * w ≤ n

-- rooms of n symbols have place for every block of a piece of `count` groups
pub record Spacious (l : Layout) (e count n : ℕ) : Type 0 where
  pub fits : (w : ℕ) → w ≤ count → Fitting l e w room_limit → Fitting l e w n

-- a piece that fits rooms of one row
pub record Few (l : Layout) (e count : ℕ) : Type 0 where
  pub unknowns : parity_racks l * count ≤ block_limit
  pub sums : e * digits l * count ≤ block_limit

-- lost trays of one rack with the helpers' shares, the host rack and the spare, and groups to repair, with E = 0 in a field whose root has N powers
pub record Piecing (N : ℕ) (l : Layout) (lost helpers shares host : List ℕ) (first count : ℕ) (spare : List ℕ) : Type 0 where
  pub adm : AdmissibleWith N 0 l
  pub losses : Losses l lost helpers
  pub shares_long : length shares ≡ l.helpers * (length lost * groups l)
  pub host_long : length host ≡ l.size * layers l
  pub spare_long : length spare ≡ length lost * layers l
  pub within : first + count ≤ groups l

-- rooms of n symbols to work in
pub record Rooms (n : ℕ) (sums sides found points coefs row cur : List ℕ) : Type 0 where
  pub enough : block_limit ≤ n
  pub most : n ≤ room_limit
  pub sums_long : n ≤ length sums
  pub sides_long : n ≤ length sides
  pub found_long : n ≤ length found
  pub points_long : n ≤ length points
  pub coefs_long : n ≤ length coefs
  pub row_long : block_limit ≤ length row
  pub cur_long : block_limit ≤ length cur
