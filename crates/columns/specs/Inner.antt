-- Systems of checks by the columns, over any field: what the functions are told and give. Nothing here has to be believed.
-- Assumes nothing.
use Rattle.std.specs.Prelude.{◌≡◌, List, [], ◌∷◌, ℕ, zero, suc, ◌+◌, ◌-◌, ◌*◌, ◌/◌, ◌%◌, ◌<◌, ◌≤◌, min, eqb, length, get_or}
use Rattle.algebra.specs.Sum.{sum}
use Rattle.algebra.specs.Poly.{coeff, linear}
use Rattle.algebra.specs.Lagrange.{solve}
use Rattle.algebra.specs.Erasure.{choose}
use Rattle.algebra.specs.Locate.{gaps}
use Rattle.algebra.specs.Shape.{Field}
use Rattle.algebra.specs.Plain.{plus, minus, times}
use Rattle.kernel.specs.Inner.{cell}

-- m rows of v columns
pub record Columns {X : Type 0} (v m : ℕ) (points out : List X) : Type 0 where
  pub columns_low : 0 < v
  pub points_long : m * v ≤ length points
  pub out_long : m * v ≤ length out

-- the coefficients, each so many times ..
unfoldable pub stretched : List ℕ → ℕ → ℕ → ℕ → ℕ
stretched coefs at run j = get_or coefs (at + j / run) 0

-- .. and all v of them again and again
unfoldable pub widened : List ℕ → ℕ → ℕ → ℕ → ℕ → ℕ
widened coefs at v run j = get_or coefs (at + j / run % v) 0

-- these lie in their buffers
pub record Places {X : Type 0} (to v run turns : ℕ) (found sums : List X) (from : ℕ) (coefs : List X) (at : ℕ) : Type 0 where
  pub run_low : 0 < run
  pub columns_low : 0 < v
  pub turns_low : 0 < turns
  pub found_long : to + v * turns * run ≤ length found
  pub sums_long : from + v * turns * run ≤ length sums
  pub coefs_long : at + v ≤ length coefs

-- the symbols of a room of blocks
abbrev pub room : ℕ
room = 1536

-- what `combine` and `solve` are told: rows of w = v · turns · run places
pub record Systems {X : Type 0} (w v run turns m : ℕ) (found sums coefs row : List X) : Type 0 where
  pub run_low : 0 < run
  pub columns_low : 0 < v
  pub turns_low : 0 < turns
  pub width : w ≡ v * turns * run
  pub found_long : m * w ≤ length found
  pub sums_long : m * w ≤ length sums
  pub coefs_long : m * v ≤ length coefs
  pub row_long : w ≤ length row

-- the same where all places of a row have the same points: one column
pub record Wholes {X : Type 0} (w v m : ℕ) (found sums coefs : List X) : Type 0 where
  pub one : v ≡ 1
  pub found_long : m * w ≤ length found
  pub sums_long : m * w ≤ length sums
  pub coefs_long : m * v ≤ length coefs

module _ {A : Type 0} (f : Field A) where
  open f use {ops}
  open f.coding use {elem, size}

  -- the points of column c
  unfoldable pub column : ℕ → List ℕ → ℕ → ℕ → A
  column v points c k = cell f v points k c

  -- the product, over the points 0 .. m - 1 but i, of (point i - q)
  unfoldable pub differences : (ℕ → A) → ℕ → ℕ → A
  differences p i zero = ops.one
  differences p i (suc m) = choose (eqb m i) (differences p i m) (ops.mul (differences p i m) (ops.add (p i) (ops.neg (p m))))

  -- a times the product, over the points 0 .. m - 1 but i, of (X - q)
  unfoldable pub grown : A → (ℕ → A) → ℕ → ℕ → List A
  grown a p i zero = a ∷ []
  grown a p i (suc m) = choose (eqb m i) (grown a p i m) (linear ops (p m) (grown a p i m))

  -- the product, over the points 0 .. m - 1, of (X - q)
  unfoldable pub locator : (ℕ → A) → ℕ → List A
  locator p zero = ops.one ∷ []
  locator p (suc m) = linear ops (p m) (locator p m)

  -- the rows have the coefficients of the product over the points 0 .. q - 1, but that of X^m
  pub record Locator (v m : ℕ) (points : List ℕ) (q : ℕ) (out : List ℕ) : Type 0 where
    pub at : (t c : ℕ) → t < m → c < v → cell f v out t c ≡ coeff ops (locator (column v points c) q) t

  -- the product of the differences of point i with the k - 1 points after it, point 0 after the last
  unfoldable pub turned : (ℕ → A) → ℕ → ℕ → ℕ → A
  turned p m i k = ops.mul (gaps ops (λ j. p (suc i + j)) (min (k - 1) (m - 1 - i)) (p i)) (gaps ops p (i + k - m) (p i))

  -- the rows have less these
  pub record Turned (v m : ℕ) (points : List ℕ) (k : ℕ) (out : List ℕ) : Type 0 where
    pub at : (i c : ℕ) → i < m → c < v → cell f v out i c ≡ ops.neg (turned (column v points c) m i k)

  -- and, for each point, the inverse of less the product of its differences with the others
  pub record Divisors (v m : ℕ) (points out : List ℕ) : Type 0 where
    pub at : (i c : ℕ) → i < m → c < v → cell f v out i c ≡ ops.inv (ops.neg (differences (column v points c) i m))

  -- what all rows go by
  pub record Factored (v m : ℕ) (points product divs : List ℕ) : Type 0 where
    pub columns_low : 0 < v
    pub points_long : m * v ≤ length points
    pub product_long : m * v ≤ length product
    pub divs_long : m * v ≤ length divs
    pub locators : Locator v m points m product
    pub divisors : Divisors v m points divs

  -- the rows have the product over the points but i, from the power t of X on
  pub record Quotient (v m : ℕ) (points : List ℕ) (i t : ℕ) (out : List ℕ) : Type 0 where
    pub at : (k c : ℕ) → t ≤ k → k < m → c < v → cell f v out k c ≡ coeff ops (grown ops.one (column v points c) i m) k

  -- the rows 0 .. top times (X - point q)
  pub record Timed (v q top : ℕ) (points was is : List ℕ) : Type 0 where
    pub first : (c : ℕ) → c < v → cell f v is 0 c ≡ ops.neg (ops.mul (cell f v was 0 c) (cell f v points q c))
    pub next : (t c : ℕ) → t < top → c < v → cell f v is (suc t) c ≡ ops.add (cell f v was t c) (ops.neg (ops.mul (cell f v was (suc t) c) (cell f v points q c)))
    pub above : (t c : ℕ) → top < t → c < v → cell f v is t c ≡ cell f v was t c

  -- what is carried into row t: the row below
  unfoldable pub carried : ℕ → List ℕ → ℕ → ℕ → A
  carried v was zero c = ops.zero
  carried v was (suc t) c = cell f v was t c

  -- the same as far as the rows below t
  pub record Timing (v q : ℕ) (points was is carry : List ℕ) (t : ℕ) : Type 0 where
    pub done : (r c : ℕ) → r < t → c < v → cell f v is r c ≡ ops.add (carried v was r c) (ops.neg (ops.mul (cell f v was r c) (cell f v points q c)))
    pub rest : (r c : ℕ) → t ≤ r → c < v → cell f v is r c ≡ cell f v was r c
    pub carries : (c : ℕ) → c < v → elem (get_or carry c 0) ≡ carried v was t c

  -- a run plus another, times the coefficient of its column
  unfoldable pub weighted : List ℕ → ℕ → ℕ → ℕ → List ℕ → ℕ → List ℕ → ℕ → ℕ → ℕ
  weighted found to v run sums from coefs at j = plus f (get_or found (to + j) 0) (times f (get_or sums (from + j) 0) (get_or coefs (at + j / run % v) 0))

  -- a buffer's run plus a run times another buffer's
  unfoldable pub divided : List ℕ → ℕ → List ℕ → ℕ → List ℕ → ℕ → ℕ → ℕ
  divided src from out next by at j = plus f (get_or src (from + j) 0) (times f (get_or out (next + j) 0) (get_or by (at + j) 0))

  -- a run times another buffer's
  unfoldable pub scaled : List ℕ → ℕ → List ℕ → ℕ → ℕ → ℕ
  scaled out to by at j = times f (get_or out (to + j) 0) (get_or by (at + j) 0)

  -- a run times one symbol
  unfoldable pub scaled_by : List ℕ → ℕ → ℕ → ℕ → ℕ
  scaled_by out to x j = times f (get_or out (to + j) 0) x

  -- less another buffer's run
  unfoldable pub negated : List ℕ → ℕ → ℕ → ℕ
  negated src from j = minus f 0 (get_or src (from + j) 0)

  -- row i is the sum of the first n rows of right sides, each times the coefficient of its column; the rest is as it was
  pub record Combined (w v run n i : ℕ) (sums coefs was is : List ℕ) : Type 0 where
    pub long : length is ≡ length was
    pub here : (j : ℕ) → j < w → cell f w is i j ≡ sum ops n (λ t. ops.mul (cell f w sums t j) (cell f v coefs t (j / run % v)))
    pub small : (j : ℕ) → j < w → get_or is (i * w + j) 0 < size
    pub others : (x j : ℕ) → j < w → ¬ (x ≡ i) → get_or is (x * w + j) 0 ≡ get_or was (x * w + j) 0

  -- row i times the columns' row i
  pub record Divided (w v run i : ℕ) (coefs was is : List ℕ) : Type 0 where
    pub long : length is ≡ length was
    pub here : (j : ℕ) → j < w → cell f w is i j ≡ ops.mul (cell f w was i j) (cell f v coefs i (j / run % v))
    pub small : (j : ℕ) → j < w → get_or is (i * w + j) 0 < size
    pub others : (x j : ℕ) → j < w → ¬ (x ≡ i) → get_or is (x * w + j) 0 ≡ get_or was (x * w + j) 0

  -- row i is the unknown of point i whose checks make up for the sums; the rest is as it was
  pub record RowSolved (w v run m i : ℕ) (sums points was is : List ℕ) : Type 0 where
    pub long : length is ≡ length was
    pub here : (j : ℕ) → j < w → cell f w is i j ≡ solve ops (column v points (j / run % v)) m (λ t. ops.neg (cell f w sums t j)) i
    pub small : (j : ℕ) → j < w → get_or is (i * w + j) 0 < size
    pub others : (x j : ℕ) → j < w → ¬ (x ≡ i) → get_or is (x * w + j) 0 ≡ get_or was (x * w + j) 0

  -- the first n rows are the unknowns whose checks make up for the sums
  pub record Solved (w v run m : ℕ) (sums points found : List ℕ) (n : ℕ) : Type 0 where
    pub at : (i j : ℕ) → i < n → j < w → cell f w found i j ≡ solve ops (column v points (j / run % v)) m (λ t. ops.neg (cell f w sums t j)) i
    pub small : (i j : ℕ) → i < n → j < w → get_or found (i * w + j) 0 < size
