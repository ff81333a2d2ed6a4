-- How the items of a buffer are read as numbers, and what inverting does to a buffer. Nothing here has to be believed.
-- Assumes nothing.
use Rattle.std.specs.Prelude.{◌≡◌, List, ℕ, ◌+◌, ◌<◌, ◌≤◌, length, map, get_or}
use Rattle.algebra.specs.Field.{Ops}
use Rattle.algebra.specs.Shape.{Field}

-- a buffer is read item by item
pub record AsNumbers {S : Type 0} (code : S → ℕ) (codes : List S → List ℕ) : Type 0 where
  pub each : (xs : List S) → codes xs ≡ map code xs

-- each number of a run of places is replaced by one that stands for its inverse, and elsewhere the buffer is as it was
pub record Inverted {A : Type 0} (f : Field A) (was is : List ℕ) (to len : ℕ) : Type 0 where
  pub long : length is ≡ length was
  pub done : (j : ℕ) → j < len → f.coding.elem (get_or is (to + j) 0) ≡ f.ops.inv (f.coding.elem (get_or was (to + j) 0))
  pub low : (i : ℕ) → i < to → get_or is i 0 ≡ get_or was i 0
  pub high : (i : ℕ) → to + len ≤ i → get_or is i 0 ≡ get_or was i 0
