-- Lists and tests given by a function of the index, and grounds for refusing.
-- Assumes nothing.
use Rattle.std.specs.Prelude.{Bool, true, cond, not, ◌&&◌, List, [], ◌∷◌, ℕ, zero, suc, ◌+◌, ◌-◌, eqb, ltb, length, get_or}

-- the list f 0, .., f (n - 1)
unfoldable pub table : (ℕ → ℕ) → ℕ → List ℕ
table f zero = []
table f (suc n) = f 0 ∷ table (λ i. f (suc i)) n

-- whether f 0, .., f (n - 1) are all true
unfoldable pub all : (ℕ → Bool) → ℕ → Bool
all f zero = true
all f (suc n) = all f n && f n

-- a ground n for refusing where a test fails, and otherwise the grounds after it
abbrev pub unless : Bool → ℕ → ℕ → ℕ
unless ok n rest = cond ok rest n

-- every number of a list is below n
unfoldable pub all_below : List ℕ → ℕ → Bool
all_below xs n = all (λ k. ltb (get_or xs k 0) n) (length xs)

-- each number of a list is below the next
unfoldable pub strictly_rising : List ℕ → Bool
strictly_rising xs = all (λ k. ltb (get_or xs k 0) (get_or xs (k + 1) 0)) (length xs - 1)

-- n is not in a list
unfoldable pub absent : List ℕ → ℕ → Bool
absent xs n = all (λ k. not (eqb (get_or xs k 0) n)) (length xs)
