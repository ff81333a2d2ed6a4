-- What the functions of the right multipliers are told and give, over any field. Nothing here has to be believed.
-- Assumes nothing.
use Rattle.std.specs.Prelude.{◌≡◌, List, ℕ, ◌+◌, ◌*◌, ◌<◌, ◌≤◌, length, get_or}
use Rattle.algebra.specs.Sum.{pow}
use Rattle.algebra.specs.Repair.{helper_place}
use Rattle.algebra.specs.Shape.{Field}
use Rattle.kernel.specs.Inner.{cell}
use Rattle.layout.specs.declared.Layout.{Layout}
use Rattle.layout.specs.Layout.{digits, groups, parity_racks}
use Rattle.blocks.specs.Inner.{block_limit, room_limit}
use Rattle.sums.specs.Inner.{helper_at, place_point, Chosen}
use Rattle.card.specs.Inner.{right_multiplier}

-- a host rack, d helpers out of the others, and a group
pub record Grouped (l : Layout) (h p : ℕ) (helpers : List ℕ) : Type 0 where
  pub chosen : Chosen l h helpers
  pub inside : p < groups l

-- room for the right sides
pub record Space (l : Layout) (sides row cur : List ℕ) : Type 0 where
  pub sides_long : parity_racks l * l.helpers ≤ length sides
  pub row_long : l.helpers ≤ length row
  pub cur_long : l.helpers ≤ length cur

-- room for all
pub record Rooms (found sides points coefs row cur : List ℕ) : Type 0 where
  pub found_long : room_limit ≤ length found
  pub sides_long : room_limit ≤ length sides
  pub points_long : room_limit ≤ length points
  pub coefs_long : room_limit ≤ length coefs
  pub row_long : block_limit ≤ length row
  pub cur_long : block_limit ≤ length cur

module _ {A : Type 0} (f : Field A) (l : Layout) (h p : ℕ) (helpers : List ℕ) where
  open f use {ops}
  open f.coding use {elem, size}

  -- the point of the k-th helper
  abbrev pub helper_point : ℕ → A
  helper_point k = place_point f l h p (helper_place (digits l) h (helper_at helpers) k)

  -- the points of the first n helpers
  pub record HelperPoints (n : ℕ) (row : List ℕ) : Type 0 where
    pub at : (k : ℕ) → k < n → elem (get_or row k 0) ≡ helper_point k

  -- their powers, a row for each check and a column for each helper
  pub record PowerSides (sides : List ℕ) : Type 0 where
    pub at : (t k : ℕ) → t < parity_racks l → k < l.helpers → cell f l.helpers sides t k ≡ pow ops (helper_point k) t

  -- the right multipliers, in a card's order, each a symbol
  pub record Multipliers (found : List ℕ) : Type 0 where
    pub at : (b k : ℕ) → b < digits l → k < l.helpers → cell f l.helpers found b k ≡ right_multiplier f l h helpers p b k
    pub small : (b k : ℕ) → b < digits l → k < l.helpers → get_or found (b * l.helpers + k) 0 < size
