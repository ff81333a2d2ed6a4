-- Erased trays of many codewords, over any field: what the functions of this crate are told and give. Nothing here has to be believed.
-- Assumes nothing.
use Rattle.std.specs.Prelude.{◌≡◌, List, ℕ, ◌+◌, ◌-◌, ◌*◌, ◌/◌, ◌<◌, ◌≤◌, min, length, get_or}
use Rattle.algebra.specs.Sum.{sum}
use Rattle.algebra.specs.Poly.{eval}
use Rattle.algebra.specs.Lagrange.{basis}
use Rattle.algebra.specs.Shape.{Field}
use Rattle.algebra.specs.Cabinet.{Rising}
use Rattle.layout.specs.declared.Layout.{Layout}
use Rattle.layout.specs.Layout.{trays, checks, layers, tray_limit, Cabinet}
use Rattle.codeword.specs.Codeword.{point_at}
use Rattle.restore.specs.Inner.{erased_at, RestoredTo}
use Rattle.batch_parts.specs.Parts.{part}

-- a number as whole vectors of sixteen, and how many times eight are enough for it
unfoldable pub lanes_of : ℕ → ℕ
lanes_of s = (s + 15) / 16 * 16

unfoldable pub eights_of : ℕ → ℕ
eights_of n = (n + 7) / 8

-- trays to work out and trays to do so from, all of them together
pub record Lists (l : Layout) (es ks : List ℕ) : Type 0 where
  pub adm : Cabinet l
  pub es_in : (k : ℕ) → k < length es → get_or es k 0 < trays l
  pub es_apart : (j k : ℕ) → j < length es → k < length es → get_or es j 0 ≡ get_or es k 0 → j ≡ k
  pub ks_in : (t : ℕ) → t < length ks → get_or ks t 0 < trays l
  pub kept : (t k : ℕ) → t < length ks → k < length es → ¬ (get_or ks t 0 ≡ get_or es k 0)
  pub total : length ks + length es ≡ trays l
  pub some : 0 < length ks

-- the same, and m codewords
pub record Job (l : Layout) (total m : ℕ) (es ks c : List ℕ) : Type 0 where
  pub lists : Lists l es ks
  pub total_is : total ≡ layers l
  pub long : length c ≡ trays l * layers l * m

pub record Pointing (l : Layout) (list p : List ℕ) : Type 0 where
  pub adm : Cabinet l
  pub inside : (t : ℕ) → t < length list → get_or list t 0 < trays l
  pub room : length list ≤ length p
  pub few : length list ≤ tray_limit

-- where the rows of a list of trays begin, the last one again and again after its end
pub record Placed (ks : List ℕ) (gap first n : ℕ) (was is : List ℕ) : Type 0 where
  pub long : length is ≡ length was
  pub at : (t : ℕ) → t < n → get_or is t 0 ≡ get_or ks (min t (length ks - 1)) 0 * gap + first

-- rows of a list of trays, and room for the output rows of a block
pub record Sums (rows w : ℕ) (src ks : List ℕ) (gap first wide row : ℕ) (acc : List ℕ) : Type 0 where
  pub narrow : w ≤ 128
  pub room : rows * 128 ≤ length acc
  pub some : 0 < length ks
  pub few : length ks ≤ tray_limit
  pub inside : (t : ℕ) → t < length ks → get_or ks t 0 * gap + gap ≤ length src
  pub column : first + w ≤ gap
  pub wide_in : row + rows ≤ wide

-- trays of a list, each so many places from the next
pub record Outputs (es : List ℕ) (gap : ℕ) (c : List ℕ) : Type 0 where
  pub inside : (o : ℕ) → o < length es → get_or es o 0 * gap + gap ≤ length c
  pub apart : (j k : ℕ) → j < length es → k < length es → get_or es j 0 ≡ get_or es k 0 → j ≡ k

-- the same, and the known trays
pub record Trays (es ks : List ℕ) (gap : ℕ) (c : List ℕ) : Type 0 where
  pub outputs : Outputs es gap c
  pub inside : (t : ℕ) → t < length ks → get_or ks t 0 * gap + gap ≤ length c
  pub kept : (t k : ℕ) → t < length ks → k < length es → ¬ (get_or ks t 0 ≡ get_or es k 0)
  pub some : 0 < length ks
  pub few : length ks ≤ tray_limit

-- room for the output rows
pub record Wide (es : List ℕ) (wide : ℕ) (acc : List ℕ) : Type 0 where
  pub few : length es ≤ wide
  pub room : length es * 128 ≤ length acc

-- a rising list of at most r trays, and m codewords
pub record Restoring (l : Layout) (m : ℕ) (es c : List ℕ) : Type 0 where
  pub adm : Cabinet l
  pub long : length c ≡ trays l * layers l * m
  pub rising : Rising (λ k. get_or es k 0) (length es) (trays l)
  pub few : length es ≤ checks l

-- the first n rows of a block written to the trays of a list
pub record PutRows (es : List ℕ) (gap first w : ℕ) (acc was is : List ℕ) (n : ℕ) : Type 0 where
  pub long : length is ≡ length was
  pub here : (o c : ℕ) → o < n → c < w → get_or is (get_or es o 0 * gap + (first + c)) 0 ≡ get_or acc (o * 128 + c) 0
  pub other : (i : ℕ) → ((o c : ℕ) → o < n → c < w → ¬ (i ≡ get_or es o 0 * gap + (first + c))) → get_or is i 0 ≡ get_or was i 0

module _ {A : Type 0} (f : Field A) where
  open f use {ops}
  open f.coding use {elem, val}

  -- sums over all trays are sums over the known ones, where the others count nothing
  pub record Complement (n : ℕ) (es ks : List ℕ) : Type 0 where
    pub sums : (g : ℕ → A) → ((k : ℕ) → k < length es → g (get_or es k 0) ≡ ops.zero) → sum ops (length ks) (λ t. g (get_or ks t 0)) ≡ sum ops n g

  -- the points of the first n trays of a list
  pub record ListPoints (l : Layout) (j : ℕ) (list : List ℕ) (n : ℕ) (was is : List ℕ) : Type 0 where
    pub long : length is ≡ length was
    pub at : (t : ℕ) → t < n → elem (get_or is t 0) ≡ point_at f l j (get_or list t 0)

  -- what tray x counts for in tray o of a list
  unfoldable pub weight_of : Layout → ℕ → List ℕ → ℕ → ℕ → A
  weight_of l j es o x = ops.neg (eval ops (basis ops (λ i. point_at f l j (get_or es i 0)) o (length es)) (point_at f l j x))

  pub record LayerWeights (l : Layout) (j : ℕ) (es ks : List ℕ) (weight : ℕ → ℕ → A) : Type 0 where
    pub here : (t o : ℕ) → t < length ks → o < length es → weight t o ≡ weight_of l j es o (get_or ks t 0)
    pub none : (t o : ℕ) → length ks ≤ t → t < eights_of (length ks) * 8 → o < length es → weight t o ≡ ops.zero

  -- no weight after the rows of a list
  pub record Padded (weight : ℕ → ℕ → A) (ks : List ℕ) (rows : ℕ) : Type 0 where
    pub none : (t o : ℕ) → length ks ≤ t → t < eights_of (length ks) * 8 → o < rows → weight t o ≡ ops.zero

  -- output row o in column c of a block
  unfoldable pub sum_at : (ℕ → ℕ → A) → List ℕ → List ℕ → ℕ → ℕ → ℕ → ℕ → A
  sum_at weight src ks gap first o c = sum ops (length ks) (λ t. ops.mul (elem (get_or src (get_or ks t 0 * gap + (first + c)) 0)) (weight t o))

  pub record BlockSums (weight : ℕ → ℕ → A) (src ks : List ℕ) (gap first w row rows : ℕ) (was is : List ℕ) : Type 0 where
    pub long : length is ≡ length was
    pub at : (o c : ℕ) → o < rows → c < w → get_or is (o * 128 + c) 0 ≡ val (sum_at weight src ks gap first (row + o) c)

  -- a block of w columns worked out and written, and everything else as it was
  pub record BlockTo (weight : ℕ → ℕ → A) (es ks : List ℕ) (gap first w : ℕ) (was is : List ℕ) : Type 0 where
    pub long : length is ≡ length was
    pub done : (o c : ℕ) → o < length es → c < w → get_or is (get_or es o 0 * gap + (first + c)) 0 ≡ val (sum_at weight was ks gap first o c)
    pub other : (i : ℕ) → ((o c : ℕ) → o < length es → c < w → ¬ (i ≡ get_or es o 0 * gap + (first + c))) → get_or is i 0 ≡ get_or was i 0

  module _ (l : Layout) (total m : ℕ) (es : List ℕ) where
    -- layer j worked out, and everything else as it was
    pub record LayerTo (j : ℕ) (was is : List ℕ) : Type 0 where
      pub long : length is ≡ length was
      pub done : (o q : ℕ) → o < length es → q < m → get_or is ((get_or es o 0 * total + j) * m + q) 0 ≡ val (erased_at f l es (part m q was) j o)
      pub layers : (x i q : ℕ) → i < total → q < m → ¬ (i ≡ j) → get_or is ((x * total + i) * m + q) 0 ≡ get_or was ((x * total + i) * m + q) 0
      pub kept : (x i q : ℕ) → i < total → q < m → ((k : ℕ) → k < length es → ¬ (x ≡ get_or es k 0)) → get_or is ((x * total + i) * m + q) 0 ≡ get_or was ((x * total + i) * m + q) 0

    -- the layers below j worked out, and all other trays as they were
    pub record BatchTo (c : List ℕ) (j : ℕ) (is : List ℕ) : Type 0 where
      pub long : length is ≡ length c
      pub done : (o i q : ℕ) → o < length es → i < j → q < m → get_or is ((get_or es o 0 * total + i) * m + q) 0 ≡ val (erased_at f l es (part m q c) i o)
      pub kept : (x i q : ℕ) → i < total → q < m → ((k : ℕ) → k < length es → ¬ (x ≡ get_or es k 0)) → get_or is ((x * total + i) * m + q) 0 ≡ get_or c ((x * total + i) * m + q) 0

  -- every codeword restored
  pub record Restored (l : Layout) (m : ℕ) (es c d : List ℕ) : Type 0 where
    pub long : length d ≡ length c
    pub parts : (q : ℕ) → q < m → RestoredTo f l es (part m q c) (layers l) (part m q d)
