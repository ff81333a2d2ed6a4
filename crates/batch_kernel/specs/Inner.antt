-- Sums of rows, each times a factor: what the functions are told and give. Nothing here has to be believed.
-- Assumes nothing.
use Rattle.std.specs.Prelude.{◌≡◌, List, ℕ, zero, suc, ◌+◌, ◌*◌, ◌/◌, ◌%◌, ◌^◌, ◌<◌, ◌≤◌, length, get_or}
use Rattle.algebra.specs.Sum.{sum}
use Rattle.algebra.specs.Shape.{Field}
use Rattle.batch_kernel.specs.Ready.{climbed, Column}
use Rattle.symbol.specs.Elem.{Elem, elem, ops, gf256}

-- ---- over any field
module _ {A : Type 0} (f : Field A) where
  -- what input row t gives to output row o, in column j, with the weights of its factors
  unfoldable pub term_at : (ℕ → ℕ → A) → List ℕ → List ℕ → ℕ → ℕ → ℕ → A
  term_at weight src at o j t = f.ops.mul (f.coding.elem (get_or src (get_or at t 0 + j) 0)) (weight t o)

  -- column j of output row o after n input rows
  unfoldable pub row_of : (ℕ → ℕ → A) → List ℕ → List ℕ → ℕ → ℕ → ℕ → ℕ
  row_of weight src at o n j = f.coding.val (sum f.ops n (term_at weight src at o j))

  -- the output rows from the number first on, after n times eight input rows
  pub record Summed (weight : ℕ → ℕ → A) (src at : List ℕ) (first w rows n : ℕ) (was is : List ℕ) : Type 0 where
    pub long : length is ≡ length was
    pub done : (o j : ℕ) → o < rows → j < w → get_or is (o * 128 + j) 0 ≡ f.coding.val (sum f.ops (n * 8) (term_at weight src at (first + o) j))

  -- eight input rows added to the output rows
  pub record EightAdded (weight : ℕ → ℕ → A) (src at : List ℕ) (first w rows q : ℕ) (was is : List ℕ) : Type 0 where
    pub long : length is ≡ length was
    pub done : (o j : ℕ) → o < rows → j < w →
        get_or is (o * 128 + j) 0 ≡ f.coding.val (f.ops.add (f.coding.elem (get_or was (o * 128 + j) 0)) (sum f.ops 8 (λ i. term_at weight src at (first + o) j (q * 8 + i))))

  -- none, one or both of two symbols
  unfoldable pub two_of : A → A → ℕ → A
  two_of x y zero = f.ops.zero
  two_of x y (suc zero) = x
  two_of x y (suc (suc zero)) = y
  two_of x y (suc (suc (suc s))) = f.ops.add x y

  -- some of four symbols, by the bits of s
  unfoldable pub sum_of : A → A → A → A → ℕ → A
  sum_of a b c d s = f.ops.add (two_of c d (s / 4)) (two_of a b (s % 4))

  -- the buffer holds g 0 .. g (n - 1) at places a block's width apart, and elsewhere what it held
  pub record Spots (g : ℕ → A) (was is : List ℕ) (to n : ℕ) : Type 0 where
    pub long : length is ≡ length was
    pub done : (s : ℕ) → s < n → f.coding.elem (get_or is (to + s * 128) 0) ≡ g s
    pub other : (i : ℕ) → ((s : ℕ) → s < n → ¬ (i ≡ to + s * 128)) → get_or is i 0 ≡ get_or was i 0

  -- the sixteen sums of four rows of w columns
  pub record Tabled (src : List ℕ) (p0 p1 p2 p3 to w : ℕ) (was is : List ℕ) : Type 0 where
    pub long : length is ≡ length was
    pub done : (s j : ℕ) → s < 16 → j < w → f.coding.elem (get_or is (to + s * 128 + j) 0) ≡
        sum_of (f.coding.elem (get_or src (p0 + j) 0)) (f.coding.elem (get_or src (p1 + j) 0)) (f.coding.elem (get_or src (p2 + j) 0)) (f.coding.elem (get_or src (p3 + j) 0)) s
    pub low : (i : ℕ) → i < to → get_or is i 0 ≡ get_or was i 0

  -- what bit k of eight factors picks, in column j
  unfoldable pub rung_at : List ℕ → List ℕ → ℕ → ℕ → ℕ → ℕ → A
  rung_at tab picks at wide j k =
      f.ops.add (f.coding.elem (get_or tab (get_or picks (at + k * wide) 0 * 128 + j) 0)) (f.coding.elem (get_or tab (2048 + (get_or picks (at + (8 + k) * wide) 0 * 128 + j)) 0))

  -- the weights are the factors of n times eight input rows, a row of them for each
  pub record Weighs (weight : ℕ → ℕ → A) (g : List ℕ) (wide n : ℕ) : Type 0 where
    pub at : (t o : ℕ) → t < n * 8 → o < wide → weight t o ≡ f.coding.elem (get_or g (t * wide + o) 0)

-- rows of a list and room for the output rows
pub record Laid {X : Type 0} (rows w : ℕ) (src : List X) (at : List ℕ) (wide first : ℕ) (acc : List X) : Type 0 where
  pub narrow : w ≤ 128
  pub room : rows * 128 ≤ length acc
  pub places : (t : ℕ) → t < length at → get_or at t 0 + w ≤ length src
  pub few : first + rows ≤ wide

-- ---- in the first field, by bits
unfoldable pub ladder_at : List ℕ → List ℕ → ℕ → ℕ → ℕ → Elem
ladder_at tab picks at wide j = climbed gf256 (rung_at gf256 tab picks at wide j) 7

-- a run plus the sum of eight rows
unfoldable pub climbed_at : List ℕ → List ℕ → ℕ → ℕ → List ℕ → ℕ → ℕ → ℕ
climbed_at tab picks at wide acc to j = gf256.coding.val (ops.add (elem (get_or acc (to + j) 0)) (ladder_at tab picks at wide j))

-- the first n output rows added
pub record RowsAdded (tab picks : List ℕ) (at wide w : ℕ) (was is : List ℕ) (n : ℕ) : Type 0 where
  pub long : length is ≡ length was
  pub done : (o j : ℕ) → o < n → j < w → get_or is (o * 128 + j) 0 ≡ gf256.coding.val (ops.add (elem (get_or was (o * 128 + j) 0)) (ladder_at tab picks (at + o) wide j))
  pub rest : (i : ℕ) → n * 128 ≤ i → get_or is i 0 ≡ get_or was i 0

-- rows of a list, their factors, and room for the sums and the output rows
pub record Summing (rows w : ℕ) (src at picks : List ℕ) (wide first : ℕ) (acc tab : List ℕ) : Type 0 where
  pub narrow : w ≤ 128
  pub room : rows * 128 ≤ length acc
  pub sums : 4096 ≤ length tab
  pub places : (t : ℕ) → t < length at → get_or at t 0 + w ≤ length src
  pub few : first + rows ≤ wide
  pub picks_long : length at / 8 * (16 * wide) ≤ length picks
  pub columns : (q o : ℕ) → q < length at / 8 → o < rows → Column picks (q * 16 * wide + first + o) wide

-- bit k of four factors, as one number
unfoldable pub pick_of : ℕ → ℕ → ℕ → ℕ → ℕ → ℕ
pick_of a b c d k = a / 2 ^ k % 2 + 2 * (b / 2 ^ k % 2) + 4 * (c / 2 ^ k % 2) + 8 * (d / 2 ^ k % 2)

-- the same of four rows of factors
unfoldable pub pick_at : List ℕ → ℕ → ℕ → ℕ → ℕ
pick_at g at wide k = pick_of (get_or g at 0) (get_or g (at + wide) 0) (get_or g (at + 2 * wide) 0) (get_or g (at + 3 * wide) 0) k

pub record PickRoom (picks : List ℕ) (end : ℕ) (g : List ℕ) (at wide : ℕ) : Type 0 where
  pub picks_long : end ≤ length picks
  pub g_long : at + 4 * wide ≤ length g

pub record PickedRow (g : List ℕ) (at wide k to n : ℕ) (was is : List ℕ) : Type 0 where
  pub long : length is ≡ length was
  pub done : (o : ℕ) → o < n → get_or is (to + o) 0 ≡ pick_at g (at + o) wide k
  pub small : (o : ℕ) → o < n → get_or is (to + o) 0 < 16
  pub low : (i : ℕ) → i < to → get_or is i 0 ≡ get_or was i 0

pub record PickedFour (g : List ℕ) (at wide to n : ℕ) (was is : List ℕ) : Type 0 where
  pub long : length is ≡ length was
  pub done : (k o : ℕ) → k < n → o < wide → get_or is (to + k * wide + o) 0 ≡ pick_at g (at + o) wide k
  pub small : (k o : ℕ) → k < n → o < wide → get_or is (to + k * wide + o) 0 < 16
  pub low : (i : ℕ) → i < to → get_or is i 0 ≡ get_or was i 0

-- the factors of n times four rows
pub record Prepared (g : List ℕ) (wide n : ℕ) (was is : List ℕ) : Type 0 where
  pub long : length is ≡ length was
  pub done : (q k o : ℕ) → q < n → k < 8 → o < wide → get_or is (q * (8 * wide) + k * wide + o) 0 ≡ pick_at g (q * (4 * wide) + o) wide k
  pub small : (q k o : ℕ) → q < n → k < 8 → o < wide → get_or is (q * (8 * wide) + k * wide + o) 0 < 16

-- ---- in the second field, row after row
-- n times eight input rows, and room for an output row
pub record Adding (n to w : ℕ) (src at picks : List ℕ) (wide o : ℕ) (acc : List ℕ) : Type 0 where
  pub room : to + w ≤ length acc
  pub count : n * 8 ≤ length at
  pub places : (t : ℕ) → t < length at → get_or at t 0 + w ≤ length src
  pub factors : n * (8 * wide) ≤ length picks
  pub inside : o < wide
