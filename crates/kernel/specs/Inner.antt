-- What the kernels do to a run of places of a buffer, over any field. Nothing here has to be believed.
-- Assumes nothing.
use Rattle.std.specs.Prelude.{◌≡◌, Bool, List, ℕ, ◌+◌, ◌*◌, ◌%◌, ◌<◌, ◌≤◌, eqb, length, get_or}
use Rattle.lists.specs.Lists.{all}
use Rattle.algebra.specs.Coding.{InRange}
use Rattle.algebra.specs.Sum.{sum}
use Rattle.algebra.specs.Shape.{Field}
use Rattle.algebra.specs.Plain.{plus, minus, times, reduced}

-- the buffer is holds f 0 .. f (len - 1) from the place to on, and elsewhere what the buffer was held
pub record Run (f : ℕ → ℕ) (was is : List ℕ) (to len : ℕ) : Type 0 where
  pub long : length is ≡ length was
  pub done : (j : ℕ) → j < len → get_or is (to + j) 0 ≡ f j
  pub low : (i : ℕ) → i < to → get_or is i 0 ≡ get_or was i 0
  pub high : (i : ℕ) → to + len ≤ i → get_or is i 0 ≡ get_or was i 0

-- the same at every step-th place from the place to on
pub record Spaced (f : ℕ → ℕ) (was is : List ℕ) (to step len : ℕ) : Type 0 where
  pub long : length is ≡ length was
  pub done : (j : ℕ) → j < len → get_or is (to + j * step) 0 ≡ f j
  pub other : (i : ℕ) → ((j : ℕ) → j < len → ¬ (i ≡ to + j * step)) → get_or is i 0 ≡ get_or was i 0

-- m times n places of a buffer
pub record Grid (src : List ℕ) (at gap n far m : ℕ) : Type 0 where
  pub some : 0 < n
  pub rows : (g : ℕ) → g < m → at + g * far + n * gap < length src + gap

-- a run is cut into blocks of a width, or, with the width 0, not cut
pub record Parts (len width : ℕ) : Type 0 where
  pub narrow : width ≤ 16
  pub whole : 0 < width → len % width ≡ 0

unfoldable pub filled : ℕ → ℕ → ℕ
filled v j = v

unfoldable pub copied : List ℕ → ℕ → ℕ → ℕ
copied src from j = get_or src (from + j) 0

-- the first so many symbols, again and again
unfoldable pub repeated : List ℕ → ℕ → ℕ → ℕ
repeated row period j = get_or row (j % period) 0

unfoldable pub sampled : List ℕ → ℕ → ℕ → ℕ
sampled src step j = get_or src (j * step) 0

module _ {A : Type 0} (f : Field A) where
  open f use {ops}
  open f.coding use {elem, val, size}

  -- number c of row k, in rows of w
  unfoldable pub cell : ℕ → List ℕ → ℕ → ℕ → A
  cell w xs k c = elem (get_or xs (k * w + c) 0)

  -- the buffer is holds numbers that stand for g 0 .. g (len - 1) from the place to on, reduced or not, and elsewhere what the buffer was held
  pub record Standing (g : ℕ → A) (was is : List ℕ) (to len : ℕ) : Type 0 where
    pub long : length is ≡ length was
    pub done : (j : ℕ) → j < len → elem (get_or is (to + j) 0) ≡ g j
    pub low : (i : ℕ) → i < to → get_or is i 0 ≡ get_or was i 0
    pub high : (i : ℕ) → to + len ≤ i → get_or is i 0 ≡ get_or was i 0

  unfoldable pub added : List ℕ → ℕ → List ℕ → ℕ → ℕ → ℕ
  added out to src from j = plus f (get_or out (to + j) 0) (get_or src (from + j) 0)

  -- the sum of n numbers, so many places apart
  unfoldable pub apart : List ℕ → ℕ → ℕ → ℕ → A
  apart src at gap n = sum ops n (λ b. elem (get_or src (at + b * gap) 0))

  -- the sum of m such sums, further apart
  unfoldable pub grid : List ℕ → ℕ → ℕ → ℕ → ℕ → ℕ → A
  grid src at gap n far m = sum ops m (λ g. apart src (at + g * far) gap n)

  -- runs of symbols, few enough for one sum that is not reduced
  pub record Gridding (out : List ℕ) (to len : ℕ) (src : List ℕ) (from gap n far m : ℕ) : Type 0 where
    pub given : InRange f.coding src
    pub held : (j : ℕ) → j < len → get_or out (to + j) 0 < size
    pub room : to + len ≤ length out
    pub long : from + len ≤ length src
    pub lies : (j : ℕ) → j < len → Grid src (from + j) gap n far m
    pub few : m * n ≤ 240

  unfoldable pub added_grid : List ℕ → ℕ → List ℕ → ℕ → ℕ → ℕ → ℕ → ℕ → ℕ → ℕ
  added_grid out to src from gap n far m j = val (ops.add (elem (get_or out (to + j) 0)) (grid src (from + j) gap n far m))

  -- the same for every step-th symbol
  pub record Spacing (out : List ℕ) (to step len : ℕ) (src : List ℕ) (from stride gap n far m : ℕ) : Type 0 where
    pub given : InRange f.coding src
    pub held : (j : ℕ) → j < len → get_or out (to + j * step) 0 < size
    pub some : 0 < step
    pub room : to + len * step < length out + step
    pub long : from + len * stride < length src + stride
    pub lies : (j : ℕ) → j < len → Grid src (from + j * stride) gap n far m
    pub few : m * n ≤ 240

  unfoldable pub added_spaced : List ℕ → ℕ → ℕ → List ℕ → ℕ → ℕ → ℕ → ℕ → ℕ → ℕ → ℕ → ℕ
  added_spaced out to step src from stride gap n far m j = val (ops.add (elem (get_or out (to + j * step) 0)) (grid src (from + j * stride) gap n far m))

  unfoldable pub added_product : List ℕ → ℕ → List ℕ → ℕ → List ℕ → ℕ → ℕ → ℕ
  added_product out to src from by at j = plus f (get_or out (to + j) 0) (times f (get_or src (from + j) 0) (get_or by (at + j) 0))

  unfoldable pub added_multiple : List ℕ → ℕ → List ℕ → ℕ → ℕ → ℕ → ℕ
  added_multiple out to src from v j = plus f (get_or out (to + j) 0) (times f (get_or src (from + j) 0) v)

  unfoldable pub stepped : List ℕ → List ℕ → ℕ → A
  stepped cur by j = ops.mul (elem (get_or cur j 0)) (elem (get_or by j 0))

  unfoldable pub accrued : List ℕ → ℕ → List ℕ → List ℕ → ℕ → A
  accrued out to cur by j = ops.add (elem (get_or out (to + j) 0)) (ops.mul (elem (get_or cur j 0)) (elem (get_or by j 0)))

  unfoldable pub shifted : List ℕ → ℕ → List ℕ → List ℕ → ℕ → ℕ → ℕ
  shifted out to carry by at j = minus f (get_or carry j 0) (times f (get_or out (to + j) 0) (get_or by (at + j) 0))

  unfoldable pub parted : List ℕ → ℕ → List ℕ → ℕ → ℕ → ℕ → ℕ
  parted out to src a b j = times f (get_or out (to + j) 0) (minus f (get_or src (a + j) 0) (get_or src (b + j) 0))

  unfoldable pub inverted : List ℕ → ℕ → ℕ → A
  inverted out to j = ops.inv (elem (get_or out (to + j) 0))

  -- whether the first n numbers of a list stand for zero
  unfoldable pub all_zero : List ℕ → ℕ → Bool
  all_zero xs n = all (λ j. eqb (reduced f (get_or xs j 0)) 0) n
