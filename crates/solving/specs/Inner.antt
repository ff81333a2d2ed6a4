-- What the functions of this crate are told and give, over any field. Nothing here has to be believed.
-- Assumes nothing.
use Rattle.std.specs.Prelude.{◌≡◌, List, ℕ, ◌+◌, ◌*◌, ◌<◌, ◌≤◌, length, get_or}
use Rattle.algebra.specs.Lagrange.{solve}
use Rattle.algebra.specs.Shape.{Field}
use Rattle.kernel.specs.Inner.{cell}
use Rattle.layout.specs.declared.Layout.{Layout}
use Rattle.layout.specs.Layout.{checks}
use Rattle.codeword.specs.Codeword.{point_at}
use Rattle.blocks.specs.Inner.{room_limit, Block}
use Rattle.syndrome.specs.Inner.{Listed}

-- room for the points of the trays listed, v of each
pub record Columns (l : Layout) (w first : ℕ) (es : List ℕ) (v run : ℕ) (points row : List ℕ) : Type 0 where
  pub block : Block l w first
  pub listed : Listed l es
  pub width : v * run ≤ w
  pub run_low : 0 < run
  pub points_long : length es * v ≤ length points
  pub row_long : w ≤ length row

-- room for the checks of w layers, and for as many rows more
pub record Workspace (l : Layout) (w : ℕ) (sums found points coefs row : List ℕ) : Type 0 where
  pub few : checks l * w ≤ room_limit
  pub sums_long : checks l * w ≤ length sums
  pub found_long : checks l * w ≤ length found
  pub points_long : checks l * w ≤ length points
  pub coefs_long : checks l * w ≤ length coefs
  pub row_long : w ≤ length row

module _ {A : Type 0} (f : Field A) where
  open f use {ops}
  open f.coding use {size}

  -- the points of the first n trays listed, one for each run
  pub record ListedPoints (l : Layout) (first : ℕ) (es : List ℕ) (v run n : ℕ) (points : List ℕ) : Type 0 where
    pub at : (k c : ℕ) → k < n → c < v → cell f v points k c ≡ point_at f l (first + c * run) (get_or es k 0)

  -- the symbols of the trays listed that make up for the sums
  pub record FoundBlock (l : Layout) (w first : ℕ) (es sums found : List ℕ) : Type 0 where
    pub at : (k j : ℕ) → k < length es → j < w →
        cell f w found k j ≡ solve ops (λ i. point_at f l (first + j) (get_or es i 0)) (length es) (λ t. ops.neg (cell f w sums t j)) k
    pub small : (k j : ℕ) → k < length es → j < w → get_or found (k * w + j) 0 < size
