-- The factors of bytes made ready for the sums: what the numbers of a buffer say of the factors. Nothing here has to be believed.
-- Assumes nothing.
use Rattle.std.specs.Prelude.{List, ℕ, zero, suc, ◌+◌, ◌-◌, ◌*◌, ◌/◌, ◌%◌, ◌^◌, ◌<◌, ◌≤◌, length, get_or}
use Rattle.algebra.specs.Shape.{Field}

-- the value of eight bits, from the highest down: after n more than the highest
unfoldable pub climbed : {A : Type 0} → Field A → (ℕ → A) → ℕ → A
climbed f r zero = r 7
climbed f r (suc n) = f.ops.add (f.ops.mul (climbed f r n) f.root) (r (6 - n))

-- the factor of input row t in output row o: its bits stand in the numbers of the sums of its four rows
unfoldable pub weight_at : {A : Type 0} → Field A → List ℕ → ℕ → ℕ → ℕ → A
weight_at f picks wide t o = climbed f (λ k. f.coding.elem (get_or picks ((t / 4 * 8 + k) * wide + o) 0 / 2 ^ (t % 4) % 2)) 7

-- sixteen numbers of sums, for one output row
pub record Column (picks : List ℕ) (at wide : ℕ) : Type 0 where
  pub inside : (k : ℕ) → k < 16 → at + k * wide < length picks
  pub small : (k : ℕ) → k < 16 → get_or picks (at + k * wide) 0 < 16

-- the factors of n times eight input rows are ready
pub record Ready (picks : List ℕ) (wide n : ℕ) : Type 0 where
  pub picks_long : n * (16 * wide) ≤ length picks
  pub columns : (q o : ℕ) → q < n → o < wide → Column picks (q * 16 * wide + o) wide
