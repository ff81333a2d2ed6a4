-- Horner's rule down the digits of a rack, over any field: what the loops leave. Nothing here has to be believed.
-- Assumes nothing.
use Rattle.std.specs.Prelude.{◌≡◌, cond, List, ℕ, zero, suc, ◌+◌, ◌<◌, ◌≤◌, eqb, length, get_or}
use Rattle.algebra.specs.Field.{Ops}
use Rattle.algebra.specs.Sum.{pow}
use Rattle.algebra.specs.Shape.{Field}
use Rattle.algebra.specs.Plain.{plus, root_power}

module _ {A : Type 0} (f : Field A) where
  open f use {ops, root}
  open f.coding use {elem, val}

  -- a number times the t-th power of the root
  unfoldable pub scaled : ℕ → ℕ → ℕ
  scaled t x = val (ops.mul (pow ops root t) (elem x))

  unfoldable pub scaled_run : List ℕ → ℕ → ℕ → ℕ → ℕ
  scaled_run out to t j = scaled t (get_or out (to + j) 0)

  -- the numbers of a run stand for that, the others are as they were
  pub record Scaled (t : ℕ) (was is : List ℕ) (to len : ℕ) : Type 0 where
    pub long : length is ≡ length was
    pub done : (j : ℕ) → j < len → elem (get_or is (to + j) 0) ≡ ops.mul (pow ops root t) (elem (get_or was (to + j) 0))
    pub low : (i : ℕ) → i < to → get_or is i 0 ≡ get_or was i 0
    pub high : (i : ℕ) → to + len ≤ i → get_or is i 0 ≡ get_or was i 0

  -- one digit: that, plus y where d is p
  unfoldable pub stepped : ℕ → ℕ → ℕ → ℕ → ℕ → ℕ
  stepped t y d p x = plus f (scaled t x) (cond (eqb d p) y 0)

  unfoldable pub stepped_run : List ℕ → ℕ → List ℕ → List ℕ → ℕ → ℕ → ℕ → ℕ
  stepped_run out to cur row p t j = stepped t (get_or cur j 0) (get_or row j 0) p (get_or out (to + j) 0)

  -- the digits below a, from the highest down; d is the power of the root by the digit of y
  unfoldable pub through : ℕ → ℕ → ℕ → ℕ → ℕ → ℕ
  through t y d zero x = x
  through t y d (suc a) x = through t y d a (stepped t y d (root_power f a) x)

  unfoldable pub through_run : List ℕ → ℕ → List ℕ → List ℕ → ℕ → ℕ → ℕ → ℕ
  through_run out to cur row n t j = through t (get_or cur j 0) (get_or row j 0) n (get_or out (to + j) 0)

  -- the digits from a on are done, those below are left
  pub record Left (n a t : ℕ) (cur row was is : List ℕ) (to len : ℕ) : Type 0 where
    pub long : length is ≡ length was
    pub same : (j : ℕ) → j < len → through_run was to cur row n t j ≡ through_run is to cur row a t j
    pub low : (i : ℕ) → i < to → get_or is i 0 ≡ get_or was i 0
    pub high : (i : ℕ) → to + len ≤ i → get_or is i 0 ≡ get_or was i 0
