-- What the functions of the host rack sums of a block of groups are told and give: the systems of its checks, a column for each group. Nothing here has to be
-- believed.
-- Assumes nothing.
use Rattle.std.specs.Prelude.{◌≡◌, List, ℕ, ◌+◌, ◌*◌, ◌/◌, ◌%◌, ◌<◌, ◌≤◌, length, get_or}
use Rattle.algebra.specs.Sum.{sum, pow}
use Rattle.algebra.specs.Lagrange.{solve}
use Rattle.algebra.specs.Points.{point}
use Rattle.algebra.specs.Layers.{digit, layer_of}
use Rattle.algebra.specs.Group.{free, group_point}
use Rattle.algebra.specs.Repair.{helper_place, host_sum}
use Rattle.algebra.specs.Shape.{Field}
use Rattle.kernel.specs.Inner.{cell}
use Rattle.layout.specs.declared.Layout.{Layout}
use Rattle.layout.specs.Layout.{digits, groups, parity_racks, tray_limit, Cabinet}
use Rattle.codeword.specs.Codeword.{shape_of, point_at}
use Rattle.blocks.specs.Inner.{room_limit, Block}
use Rattle.rule.specs.Lost.{sent_symbol}

abbrev pub helper_at : List ℕ → ℕ → ℕ
helper_at helpers k = get_or helpers k 0

-- a host rack and d helpers out of the others, with none to spare (E = 0)
pub record Chosen (l : Layout) (h : ℕ) (helpers : List ℕ) : Type 0 where
  pub adm : Cabinet l
  pub plain : l.errors ≡ 0
  pub host_in : h < l.racks
  pub many : length helpers ≡ l.helpers
  pub inside : (k : ℕ) → k < l.helpers → get_or helpers k 0 < l.racks
  pub rising : (k : ℕ) → k + 1 < l.helpers → get_or helpers k 0 < get_or helpers (k + 1) 0
  pub other : (k : ℕ) → k < l.helpers → ¬ (get_or helpers k 0 ≡ h)

-- the same with their shares for e lost trays
pub record Received (l : Layout) (h : ℕ) (helpers shares : List ℕ) (e : ℕ) : Type 0 where
  pub chosen : Chosen l h helpers
  pub few : e + l.dimension % l.size ≤ l.size
  pub shares_long : length shares ≡ l.helpers * (e * groups l)

-- w groups from the group `first` on
pub record Groups (l : Layout) (w first : ℕ) : Type 0 where
  pub block : Block l w first
  pub inside : first + w ≤ groups l

-- what `free_place` is told
pub record Choosing (s h : ℕ) (helpers : List ℕ) (i : ℕ) : Type 0 where
  pub base_high : s ≤ tray_limit
  pub few : length helpers ≤ tray_limit
  pub low : i < tray_limit
  pub inside : (k : ℕ) → k < length helpers → get_or helpers k 0 < tray_limit
  pub other : (k : ℕ) → k < length helpers → ¬ (get_or helpers k 0 ≡ h)

-- what is told of the right sides of weight m
pub record Sharing (l : Layout) (h w first : ℕ) (helpers shares : List ℕ) (e m : ℕ) (cur row : List ℕ) : Type 0 where
  pub received : Received l h helpers shares e
  pub block : Groups l w first
  pub weight_in : m < e
  pub cur_long : w ≤ length cur
  pub row_long : w ≤ length row

-- what `unknown_row` and `unknown_points` are told
pub record Pointed (l : Layout) (h w first : ℕ) (helpers : List ℕ) (v run : ℕ) (points row : List ℕ) : Type 0 where
  pub chosen : Chosen l h helpers
  pub block : Groups l w first
  pub run_low : 0 < run
  pub width : w ≡ v * run
  pub points_long : parity_racks l * v ≤ length points
  pub row_long : w ≤ length row

-- room for the R checks of a block, and for as many rows more
pub record Workspace (l : Layout) (w : ℕ) (sides found points coefs row : List ℕ) : Type 0 where
  pub few : parity_racks l * w ≤ room_limit
  pub sides_long : parity_racks l * w ≤ length sides
  pub found_long : parity_racks l * w ≤ length found
  pub points_long : parity_racks l * w ≤ length points
  pub coefs_long : parity_racks l * w ≤ length coefs
  pub row_long : w ≤ length row

-- what `weigh_sums` is told
pub record Weighing (l : Layout) (h w e m : ℕ) (found sums : List ℕ) : Type 0 where
  pub adm : Cabinet l
  pub host_in : h < l.racks
  pub few : e + l.dimension % l.size ≤ l.size
  pub weight_in : m < e
  pub found_long : parity_racks l * w ≤ length found
  pub sums_long : e * digits l * w ≤ length sums

-- what `weight_sums` and `block_sums` are told
pub record Summing (l : Layout) (h w first : ℕ) (helpers shares : List ℕ) (e : ℕ) (sums sides found points coefs row cur : List ℕ) : Type 0 where
  pub received : Received l h helpers shares e
  pub block : Groups l w first
  pub sums_long : e * digits l * w ≤ length sums
  pub room : Workspace l w sides found points coefs row
  pub cur_long : w ≤ length cur

module _ {A : Type 0} (f : Field A) where
  open f use {ops}
  open f.coding use {elem}

  module _ (l : Layout) (h p : ℕ) where
    -- the point of place x in the word of group p
    unfoldable pub place_point : ℕ → A
    place_point = group_point (shape_of f l) h (digit (digits l) (layer_of (digits l) h p 0))

    -- the point of unknown i
    unfoldable pub unknown_point : List ℕ → ℕ → A
    unknown_point helpers i = place_point (free (helper_place (digits l) h (helper_at helpers)) l.helpers i)

    module _ (helpers shares : List ℕ) (e m : ℕ) where
      -- helper k's part in the check t = u·w + m summed over the group
      unfoldable pub side_term : ℕ → ℕ → A
      side_term w k =
          ops.mul (pow ops (point_at f l (layer_of (digits l) h p 0) (helper_at helpers k * l.size)) (l.size * w + m)) (sent_symbol f l e shares m p k)

      -- what the helpers bring to that check; its right side is less this
      unfoldable pub right_side : ℕ → A
      right_side w = sum ops l.helpers (side_term w)

      -- the host's rack sum of weight m in the group's layer of digit a
      unfoldable pub sum_at : ℕ → A
      sum_at a =
          host_sum (shape_of f l) h (digit (digits l) (layer_of (digits l) h p 0)) (helper_at helpers) l.helpers (parity_racks l) m (sent_symbol f l e shares m p) a

  -- a row of the points at place 0 of rack i, to the power t
  pub record RackPowers (l : Layout) (h w first i t : ℕ) (row : List ℕ) : Type 0 where
    pub at : (j : ℕ) → j < w → elem (get_or row j 0) ≡ pow ops (point_at f l (layer_of (digits l) h (first + j) 0) (i * l.size)) t

  -- the right sides of weight m, as far as the helpers below n
  pub record SidesTo (l : Layout) (h w first : ℕ) (helpers shares : List ℕ) (e m n : ℕ) (sides : List ℕ) : Type 0 where
    pub at : (t j : ℕ) → t < parity_racks l → j < w → cell f w sides t j ≡ sum ops n (side_term l h (first + j) helpers shares e m t)

  -- helper k's part is added
  pub record ShareAdded (l : Layout) (h w first : ℕ) (helpers shares : List ℕ) (e m k : ℕ) (was is : List ℕ) : Type 0 where
    pub at : (t j : ℕ) → t < parity_racks l → j < w → cell f w is t j ≡ ops.add (cell f w was t j) (side_term l h (first + j) helpers shares e m t k)

  -- helper k's share of weight m, each symbol times the m-th power of the helper's point
  pub record ShareTerms (l : Layout) (h w first : ℕ) (helpers shares : List ℕ) (e m k : ℕ) (cur : List ℕ) : Type 0 where
    pub at : (j : ℕ) → j < w →
        elem (get_or cur j 0) ≡ ops.mul (pow ops (point_at f l (layer_of (digits l) h (first + j) 0) (helper_at helpers k * l.size)) m) (sent_symbol f l e shares m (first + j) k)

  -- v columns that stand for runs of so many groups with the same points
  pub record Cycle (l : Layout) (h w first : ℕ) (helpers : List ℕ) (v run : ℕ) : Type 0 where
    pub columns_low : 0 < v
    pub run_low : 0 < run
    pub width : w ≡ v * run
    pub alike : (i j : ℕ) → i < parity_racks l → j < w → unknown_point l h (first + j / run % v * run) helpers i ≡ unknown_point l h (first + j) helpers i

  -- the points of the unknowns below n
  pub record PointsTo (l : Layout) (h first : ℕ) (helpers : List ℕ) (v run n : ℕ) (points : List ℕ) : Type 0 where
    pub at : (i c : ℕ) → i < n → c < v → cell f v points i c ≡ unknown_point l h (first + c * run) helpers i

  -- those of unknown i are written, the others are as they were
  pub record PointRow (l : Layout) (h first : ℕ) (helpers : List ℕ) (v run i : ℕ) (was is : List ℕ) : Type 0 where
    pub here : (c : ℕ) → c < v → cell f v is i c ≡ unknown_point l h (first + c * run) helpers i
    pub others : (x c : ℕ) → c < v → ¬ (x ≡ i) → cell f v is x c ≡ cell f v was x c

  -- the host's unknowns that make up for what the helpers bring
  pub record FoundSums (l : Layout) (h w first : ℕ) (helpers sides found : List ℕ) : Type 0 where
    pub at : (i j : ℕ) → i < digits l → j < w → cell f w found i j ≡ solve ops (unknown_point l h (first + j) helpers) (parity_racks l) (λ t. ops.neg (cell f w sides t j)) i

  -- row q is row a of what was found, times v; the others are as they were
  pub record RowTimes (w q a v : ℕ) (found was is : List ℕ) : Type 0 where
    pub long : length is ≡ length was
    pub here : (j : ℕ) → j < w → cell f w is q j ≡ ops.mul (elem v) (cell f w found a j)
    pub others : (x j : ℕ) → j < w → ¬ (x ≡ q) → cell f w is x j ≡ cell f w was x j

  -- less the host's sums of weight m and of the digits below n are written, by what was found; those of the weights below are as they were
  pub record Weighed (l : Layout) (h w m n : ℕ) (found was is : List ℕ) : Type 0 where
    pub long : length is ≡ length was
    pub done : (a j : ℕ) → a < n → j < w → cell f w is (m * digits l + a) j ≡ ops.mul (ops.neg (ops.inv (pow ops (point (shape_of f l) h a 0) m))) (cell f w found a j)
    pub kept : (x j : ℕ) → x < m * digits l → j < w → cell f w is x j ≡ cell f w was x j

  -- less a block's host sums of the weights below n: row m·s + a has those of weight m in the layers of digit a, a column for each group
  pub record SumsTo (l : Layout) (h w first : ℕ) (helpers shares : List ℕ) (e n : ℕ) (sums : List ℕ) : Type 0 where
    pub at : (m a j : ℕ) → m < n → a < digits l → j < w → cell f w sums (m * digits l + a) j ≡ ops.neg (sum_at l h (first + j) helpers shares e m a)
