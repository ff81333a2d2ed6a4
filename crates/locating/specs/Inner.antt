-- What the functions that find a wrong share are told and give, over any field: the residues of a block of groups, a column for each group, and the helper that they
-- point to. Nothing here has to be believed.
-- The layout here has as many checks as unknowns and no helper to spare (E = 0): the shares of a layout with E = 1 are looked at by one that has its points, groups and
-- helpers (`shorter` in crate correcting), where parity_racks is the number of unknowns.
-- Assumes nothing.
use Rattle.std.specs.Prelude.{◌≡◌, List, ℕ, ◌+◌, ◌*◌, ◌≤◌, ◌<◌, length, get_or}
use Rattle.algebra.specs.Sum.{sum, pow}
use Rattle.algebra.specs.Shape.{Field}
use Rattle.algebra.specs.Locate.{gaps, helper_point, gap, residue_at, Clean, Located}
use Rattle.kernel.specs.Inner.{cell}
use Rattle.layout.specs.declared.Layout.{Layout}
use Rattle.layout.specs.Layout.{groups, traffic, parity_racks, layer_limit, Cabinet}
use Rattle.codeword.specs.Codeword.{shape_of}
use Rattle.blocks.specs.Inner.{block_limit, room_limit}
use Rattle.rule.specs.Rule.{shared_symbol}
use Rattle.sums.specs.Inner.{helper_at, Chosen, Groups, PointsTo}

-- the helpers' shares in a block of groups, and room to work in
pub record BlockRoom (l : Layout) (h w first : ℕ) (helpers shares sides points cur prod row : List ℕ) : Type 0 where
  pub chosen : Chosen l h helpers
  pub block : Groups l w first
  pub shares_long : length shares ≡ traffic l
  pub sides_long : 2 * w ≤ length sides
  pub points_long : parity_racks l * w + w ≤ length points
  pub cur_long : w ≤ length cur
  pub prod_long : w ≤ length prod
  pub row_long : w ≤ length row

-- room for all residues and to work in
pub record Rooms (zeroth first sides points cur prod row : List ℕ) : Type 0 where
  pub zeroth_long : layer_limit ≤ length zeroth
  pub first_long : layer_limit ≤ length first
  pub sides_long : room_limit ≤ length sides
  pub points_long : room_limit ≤ length points
  pub cur_long : block_limit ≤ length cur
  pub prod_long : block_limit ≤ length prod
  pub row_long : block_limit ≤ length row

-- the shares of d helpers, all groups
pub record Sent (l : Layout) (h : ℕ) (helpers shares : List ℕ) : Type 0 where
  pub chosen : Chosen l h helpers
  pub shares_long : length shares ≡ traffic l

module _ {A : Type 0} (f : Field A) where
  open f use {ops}
  open f.coding use {elem}

  -- the product over the unknowns below i of the differences from row n, column by column
  pub record GapsTo (w n : ℕ) (points : List ℕ) (i : ℕ) (cur : List ℕ) : Type 0 where
    pub at : (j : ℕ) → j < w → elem (get_or cur j 0) ≡ gaps ops (λ q. cell f w points q j) i (cell f w points n j)

  module _ (l : Layout) (h : ℕ) (helpers : List ℕ) where
    -- the k-th helper's point in group p, and the product of its differences from the unknowns' points
    unfoldable pub point_of : ℕ → ℕ → A
    point_of p k = helper_point (shape_of f l) h (helper_at helpers) l.helpers (parity_racks l) p k

    unfoldable pub gap_of : ℕ → ℕ → A
    gap_of p k = gap (shape_of f l) h (helper_at helpers) l.helpers (parity_racks l) p k

    module _ (shares : List ℕ) where
      -- the k-th helper's part in the residue t of group p, and the residue
      unfoldable pub part_of : ℕ → ℕ → ℕ → A
      part_of p t k = ops.mul (pow ops (point_of p k) t) (ops.mul (gap_of p k) (shared_symbol f l shares p k))

      unfoldable pub residue_of : ℕ → ℕ → A
      residue_of p t = residue_at (shape_of f l) h (helper_at helpers) l.helpers (parity_racks l) p (shared_symbol f l shares p) t

  -- what `own_points` is told: the points of the unknowns, and room for a row more
  pub record Pointing (l : Layout) (h w first : ℕ) (helpers points row : List ℕ) : Type 0 where
    pub chosen : Chosen l h helpers
    pub block : Groups l w first
    pub unknowns : PointsTo f l h first helpers w 1 (parity_racks l) points
    pub points_long : parity_racks l * w + w ≤ length points
    pub row_long : w ≤ length row

  -- the k-th helper's points, beside those of the unknowns
  pub record OwnPoints (l : Layout) (h w first : ℕ) (helpers : List ℕ) (k : ℕ) (points row : List ℕ) : Type 0 where
    pub unknowns : PointsTo f l h first helpers w 1 (parity_racks l) points
    pub own : (j : ℕ) → j < w → cell f w points (parity_racks l) j ≡ point_of l h helpers (first + j) k
    pub row_at : (j : ℕ) → j < w → elem (get_or row j 0) ≡ point_of l h helpers (first + j) k

  -- what `share_gaps` is told
  pub record Sharing (l : Layout) (h w first : ℕ) (helpers shares : List ℕ) (k : ℕ) (points cur prod : List ℕ) : Type 0 where
    pub adm : Cabinet l
    pub block : Groups l w first
    pub helper_in : k < l.helpers
    pub shares_long : length shares ≡ traffic l
    pub unknowns : PointsTo f l h first helpers w 1 (parity_racks l) points
    pub own : (j : ℕ) → j < w → cell f w points (parity_racks l) j ≡ point_of l h helpers (first + j) k
    pub points_long : parity_racks l * w + w ≤ length points
    pub cur_long : w ≤ length cur
    pub prod_long : w ≤ length prod

  -- the k-th helper's share, each symbol times the product of differences
  pub record ShareGaps (l : Layout) (h w first : ℕ) (helpers shares : List ℕ) (k : ℕ) (prod : List ℕ) : Type 0 where
    pub at : (j : ℕ) → j < w → elem (get_or prod j 0) ≡ ops.mul (gap_of l h helpers (first + j) k) (shared_symbol f l shares (first + j) k)

  -- the k-th helper's part is added to both residues
  pub record PartAdded (l : Layout) (h w first : ℕ) (helpers shares : List ℕ) (k : ℕ) (was is : List ℕ) : Type 0 where
    pub at : (t j : ℕ) → t < 2 → j < w → cell f w is t j ≡ ops.add (cell f w was t j) (part_of l h helpers shares (first + j) t k)

  -- those of the helpers below n
  pub record PartsTo (l : Layout) (h w first : ℕ) (helpers shares : List ℕ) (n : ℕ) (sides : List ℕ) : Type 0 where
    pub at : (t j : ℕ) → t < 2 → j < w → cell f w sides t j ≡ sum ops n (part_of l h helpers shares (first + j) t)

  -- the residues of the groups below g
  pub record Kept (l : Layout) (h : ℕ) (helpers shares : List ℕ) (g : ℕ) (zeroth first : List ℕ) : Type 0 where
    pub zeroth_at : (p : ℕ) → p < g → elem (get_or zeroth p 0) ≡ residue_of l h helpers shares p 0
    pub first_at : (p : ℕ) → p < g → elem (get_or first p 0) ≡ residue_of l h helpers shares p 1

  -- in the groups below g the residue 1 is the k-th helper's point times the residue 0
  abbrev pub PointsAt : Layout → ℕ → List ℕ → List ℕ → List ℕ → ℕ → ℕ → Type 0
  PointsAt l h helpers zeroth first k g = (p : ℕ) → p < g → elem (get_or first p 0) ≡ ops.mul (point_of l h helpers p k) (elem (get_or zeroth p 0))

  -- in a run of w numbers it is the row's times it
  abbrev pub RowAgrees : List ℕ → List ℕ → ℕ → ℕ → List ℕ → Type 0
  RowAgrees zeroth first at w row = (j : ℕ) → j < w → elem (get_or first (at + j) 0) ≡ ops.mul (elem (get_or row j 0)) (elem (get_or zeroth (at + j) 0))

  -- all residues are zero
  abbrev pub AllZero : Layout → List ℕ → List ℕ → Type 0
  AllZero l zeroth first = (p : ℕ) → p < groups l → (elem (get_or zeroth p 0) ≡ ops.zero) × (elem (get_or first p 0) ≡ ops.zero)

  -- the first helper that they point to, d + 1 for none
  pub record FirstAt (l : Layout) (h : ℕ) (helpers zeroth first : List ℕ) (r : ℕ) : Type 0 where
    pub not_all : ¬ (r ≡ l.helpers)
    pub high : r ≤ l.helpers + 1
    pub helper : r < l.helpers → PointsAt l h helpers zeroth first r (groups l)
    pub none : r ≡ l.helpers + 1 → (k : ℕ) → k < l.helpers → ¬ (PointsAt l h helpers zeroth first k (groups l))

  -- what the residues say: d where all are zero, else the first helper that they point to, else d + 1
  pub record PointedTo (l : Layout) (h : ℕ) (helpers zeroth first : List ℕ) (r : ℕ) : Type 0 where
    pub high : r ≤ l.helpers + 1
    pub clean : r ≡ l.helpers → AllZero l zeroth first
    pub dirty : ¬ (r ≡ l.helpers) → ¬ (AllZero l zeroth first)
    pub helper : r < l.helpers → PointsAt l h helpers zeroth first r (groups l)
    pub none : r ≡ l.helpers + 1 → (k : ℕ) → k < l.helpers → ¬ (PointsAt l h helpers zeroth first k (groups l))

  -- the same in the algebra's terms
  pub record Found (l : Layout) (h : ℕ) (helpers shares : List ℕ) (r : ℕ) : Type 0 where
    pub high : r ≤ l.helpers + 1
    pub clean : r ≡ l.helpers → Clean (shape_of f l) h (helper_at helpers) l.helpers (parity_racks l) (groups l) (shared_symbol f l shares)
    pub dirty : ¬ (r ≡ l.helpers) → ¬ (Clean (shape_of f l) h (helper_at helpers) l.helpers (parity_racks l) (groups l) (shared_symbol f l shares))
    pub helper : r < l.helpers → Located (shape_of f l) h (helper_at helpers) l.helpers (parity_racks l) (groups l) r (shared_symbol f l shares)
    pub none : r ≡ l.helpers + 1 → (k : ℕ) → k < l.helpers →
        ¬ (Located (shape_of f l) h (helper_at helpers) l.helpers (parity_racks l) (groups l) k (shared_symbol f l shares))
