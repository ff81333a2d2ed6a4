-- A sum of rows, each times one symbol: what the functions are told and give. Nothing here has to be believed.
-- Assumes nothing.
use Rattle.std.specs.Prelude.{◌≡◌, List, ℕ, ◌+◌, ◌*◌, ◌/◌, ◌%◌, ◌^◌, ◌<◌, ◌≤◌, length, get_or}
use Rattle.algebra.specs.Sum.{sum}
use Rattle.algebra.specs.Shape.{Field}
use Rattle.symbol.specs.Arithmetic.{◌⊗◌}
use Rattle.symbol.specs.Elem.{elem, ops, gf256}
use Rattle.kernel.specs.Inner.{cell}

-- rows of w places and a symbol for each
pub record Rows (w m i : ℕ) (found sums coefs : List ℕ) (at : ℕ) : Type 0 where
  pub row_in : i < m
  pub found_long : m * w ≤ length found
  pub sums_long : m * w ≤ length sums
  pub coefs_long : at + m ≤ length coefs

-- row i is the sum of the first n rows, each times its symbol; the rest is as it was
pub record Summed {A : Type 0} (f : Field A) (w n i : ℕ) (sums coefs : List ℕ) (at : ℕ) (was is : List ℕ) : Type 0 where
  pub long : length is ≡ length was
  pub here : (j : ℕ) → j < w → cell f w is i j ≡ sum f.ops n (λ t. f.ops.mul (cell f w sums t j) (f.coding.elem (get_or coefs (at + t) 0)))
  pub small : (j : ℕ) → j < w → get_or is (i * w + j) 0 < f.coding.size
  pub others : (x j : ℕ) → j < w → ¬ (x ≡ i) → get_or is (x * w + j) 0 ≡ get_or was (x * w + j) 0

-- ---- in the first field, by bits
unfoldable pub doubled : List ℕ → ℕ → ℕ → ℕ
doubled out to j = get_or out (to + j) 0 ⊗ 2

-- row i plus row t where the bit is set
pub record BitAdded (w t i b : ℕ) (sums was is : List ℕ) : Type 0 where
  pub long : length is ≡ length was
  pub here : (j : ℕ) → j < w → cell gf256 w is i j ≡ ops.add (cell gf256 w was i j) (ops.mul (cell gf256 w sums t j) (elem b))
  pub small : (j : ℕ) → j < w → get_or was (i * w + j) 0 < 256 → get_or is (i * w + j) 0 < 256
  pub others : (x j : ℕ) → j < w → ¬ (x ≡ i) → get_or is (x * w + j) 0 ≡ get_or was (x * w + j) 0

-- row i plus the first n rows whose symbols have bit k
pub record Plane (w n i k : ℕ) (sums coefs : List ℕ) (at : ℕ) (was is : List ℕ) : Type 0 where
  pub long : length is ≡ length was
  pub here : (j : ℕ) → j < w → cell gf256 w is i j ≡ ops.add (cell gf256 w was i j) (sum ops n (λ t. ops.mul (cell gf256 w sums t j) (elem (get_or coefs (at + t) 0 / 2 ^ k % 2))))
  pub small : (j : ℕ) → j < w → get_or was (i * w + j) 0 < 256 → get_or is (i * w + j) 0 < 256
  pub others : (x j : ℕ) → j < w → ¬ (x ≡ i) → get_or is (x * w + j) 0 ≡ get_or was (x * w + j) 0

-- row i is the sum of the first n rows, each times what is left of its symbol without the lowest k bits
pub record Upper (w n i k : ℕ) (sums coefs : List ℕ) (at : ℕ) (was is : List ℕ) : Type 0 where
  pub long : length is ≡ length was
  pub here : (j : ℕ) → j < w → cell gf256 w is i j ≡ sum ops n (λ t. ops.mul (cell gf256 w sums t j) (elem (get_or coefs (at + t) 0 / 2 ^ k)))
  pub small : (j : ℕ) → j < w → get_or is (i * w + j) 0 < 256
  pub others : (x j : ℕ) → j < w → ¬ (x ≡ i) → get_or is (x * w + j) 0 ≡ get_or was (x * w + j) 0
