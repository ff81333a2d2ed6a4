-- The factors of 16-bit numbers made ready for the sums, which are the factors as they were given. Nothing here has to be believed.
-- Assumes nothing.
use Rattle.std.specs.Prelude.{List, ℕ, ◌+◌, ◌*◌, ◌≤◌, length, get_or}
use Rattle.algebra.specs.Shape.{Field}

-- the factor of input row t in output row o
unfoldable pub weight_at : {A : Type 0} → Field A → List ℕ → ℕ → ℕ → ℕ → A
weight_at f picks wide t o = f.coding.elem (get_or picks (t * wide + o) 0)

-- the factors of n times eight input rows are ready
pub record Ready (picks : List ℕ) (wide n : ℕ) : Type 0 where
  pub picks_long : n * (8 * wide) ≤ length picks
