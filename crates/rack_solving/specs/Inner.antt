-- Whole racks solved by their sums: what the functions of this crate are told and give. Nothing here has to be believed.
-- Assumes nothing.
use Rattle.std.specs.Prelude.{◌≡◌, List, ℕ, ◌+◌, ◌-◌, ◌*◌, ◌/◌, ◌%◌, ◌<◌, ◌≤◌, length, get_or}
use Rattle.algebra.specs.Sum.{sum, pow}
use Rattle.algebra.specs.Layers.{digit}
use Rattle.algebra.specs.Lagrange.{solve}
use Rattle.algebra.specs.Points.{opposite}
use Rattle.algebra.specs.Shape.{Field}
use Rattle.kernel.specs.Inner.{cell}
use Rattle.weigh.specs.Inner.{weighted_term}
use Rattle.layout.specs.declared.Layout.{Layout}
use Rattle.layout.specs.Layout.{digits}
use Rattle.codeword.specs.Codeword.{point_at}
use Rattle.blocks.specs.Inner.{room_limit}

-- entry i * u of the list is place 0 of a rack, and those after it are its other places, as far as place n
pub record RackTo (u : ℕ) (es : List ℕ) (i n : ℕ) : Type 0 where
  pub begins : get_or es (i * u) 0 % u ≡ 0
  pub at : (g : ℕ) → g < n → get_or es (i * u + g) 0 ≡ get_or es (i * u) 0 + g

-- the first n racks of the list are whole
pub record RacksTo (u : ℕ) (es : List ℕ) (n : ℕ) : Type 0 where
  pub at : (i : ℕ) → i < n → RackTo u es i u

-- the list is n whole racks, one or more
pub record WholeRacks (u n : ℕ) (es : List ℕ) : Type 0 where
  pub some : 0 < n
  pub long : length es ≡ n * u
  pub racks : RacksTo u es n

-- all numbers are bytes
pub record Bytes (xs : List ℕ) : Type 0 where
  pub at : (i : ℕ) → get_or xs i 0 < 256

-- rows of u blocks for n racks, and room to solve them
pub record Wide (u w n v run turns : ℕ) (ys sums points coefs wide : List ℕ) : Type 0 where
  pub some : 0 < u
  pub run_low : 0 < run
  pub columns_low : 0 < v
  pub turns_low : 0 < turns
  pub width : w ≡ v * turns * run
  pub few : n * v ≤ room_limit
  pub ys_long : n * (u * w) ≤ length ys
  pub sums_long : n * (u * w) ≤ length sums
  pub points_long : n * v ≤ length points
  pub coefs_long : n * v ≤ length coefs
  pub wide_long : u * w ≤ length wide

module _ {A : Type 0} (f : Field A) (l : Layout) where
  open f use {ops, root, order}
  open f.coding use {elem}

  -- the u-th powers of the points of tray x
  pub record PowerRow (w first x : ℕ) (row : List ℕ) : Type 0 where
    pub at : (j : ℕ) → j < w → elem (get_or row j 0) ≡ pow ops (point_at f l (first + j) x) l.size

  -- those of the first n racks of the list, one for each run
  pub record RackPoints (first : ℕ) (es : List ℕ) (v run n : ℕ) (points : List ℕ) : Type 0 where
    pub at : (i c : ℕ) → i < n → c < v → cell f v points i c ≡ pow ops (point_at f l (first + c * run) (get_or es (i * l.size) 0)) l.size

  -- rack i's sum of weight m times the m-th power of its point: the unknown of the checks u·p + m
  unfoldable pub weighted_sum : ℕ → ℕ → List ℕ → ℕ → List ℕ → ℕ → ℕ → ℕ → A
  weighted_sum w first es n sums j m i =
      solve ops (λ k. pow ops (point_at f l (first + j) (get_or es (k * l.size) 0)) l.size) n (λ p. ops.neg (cell f w sums (l.size * p + m) j)) i

  pub record WeightedSums (w first : ℕ) (es : List ℕ) (n : ℕ) (sums ys : List ℕ) : Type 0 where
    pub at : (i m j : ℕ) → i < n → m < l.size → j < w → cell f w ys (i * l.size + m) j ≡ weighted_sum w first es n sums j m i

  -- the inverse of the m-th power of the point of tray x at place 0
  unfoldable pub lowering : ℕ → ℕ → ℕ → A
  lowering j x m = pow ops (pow ops root (order - m)) (x / l.size * digits l + digit (digits l) j (x / l.size))

  -- row k times that of its entry, and no other
  pub record RowLowered (w first : ℕ) (es : List ℕ) (k : ℕ) (was is : List ℕ) : Type 0 where
    pub here : (j : ℕ) → j < w → cell f w is k j ≡ ops.mul (cell f w was k j) (lowering (first + j) (get_or es k 0) (k % l.size))
    pub others : (x j : ℕ) → j < w → ¬ (x ≡ k) → cell f w is x j ≡ cell f w was x j

  -- the first n rows so
  pub record Lowered (w first : ℕ) (es : List ℕ) (n : ℕ) (was is : List ℕ) : Type 0 where
    pub at : (k j : ℕ) → k < n → j < w → cell f w is k j ≡ ops.mul (cell f w was k j) (lowering (first + j) (get_or es k 0) (k % l.size))
    pub rest : (k j : ℕ) → n ≤ k → j < w → cell f w is k j ≡ cell f w was k j

module _ {A : Type 0} (f : Field A) (u w : ℕ) where
  open f use {ops}

  -- rack i's symbols at the places opposite to those below n, by its rows of sums; the racks before it are as they were
  pub record RackFound (i : ℕ) (ys was is : List ℕ) (n : ℕ) : Type 0 where
    pub at : (m j : ℕ) → m < n → j < w → cell f w is (i * u + opposite u m) j ≡ sum ops u (weighted_term f u m ys (i * u * w) w j)
    pub before : (k j : ℕ) → k < i * u → j < w → cell f w is k j ≡ cell f w was k j

  -- all symbols of the racks below n
  pub record RacksFound (n : ℕ) (ys found : List ℕ) : Type 0 where
    pub at : (i m j : ℕ) → i < n → m < u → j < w → cell f w found (i * u + opposite u m) j ≡ sum ops u (weighted_term f u m ys (i * u * w) w j)
