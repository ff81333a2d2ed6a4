-- What inner functions give. Nothing here has to be believed.
-- Assumes nothing.
use Rattle.std.specs.Prelude.{List, ℕ, ◌+◌, ◌*◌, ◌<◌, ◌≤◌, get_or}

-- top is the highest of the len numbers from the place from on, 0 of none
pub record Highest (xs : List ℕ) (from len top : ℕ) : Type 0 where
  pub above : (j : ℕ) → j < len → get_or xs (from + j) 0 ≤ top
  pub least : (n : ℕ) → 0 < n → ((j : ℕ) → j < len → get_or xs (from + j) 0 < n) → top < n

-- top is the highest of four numbers, gap places apart
pub record HighestApart (xs : List ℕ) (at gap top : ℕ) : Type 0 where
  pub first : get_or xs at 0 ≤ top
  pub second : get_or xs (at + gap) 0 ≤ top
  pub third : get_or xs (at + 2 * gap) 0 ≤ top
  pub fourth : get_or xs (at + 3 * gap) 0 ≤ top
  pub least : (n : ℕ) → get_or xs at 0 < n → get_or xs (at + gap) 0 < n → get_or xs (at + 2 * gap) 0 < n → get_or xs (at + 3 * gap) 0 < n → top < n
