-- Which numbers of a buffer stand for symbols, over any field.
-- Assumes nothing.
use Rattle.std.specs.Prelude.{Bool, List, ℕ, ◌+◌, ◌*◌, ltb, get_or}
use Rattle.lists.specs.Lists.{all}
use Rattle.algebra.specs.Shape.{Field}

-- the len numbers from the place from on are symbols
unfoldable pub symbols_from : {A : Type 0} → Field A → List ℕ → ℕ → ℕ → Bool
symbols_from f xs from len = all (λ k. ltb (get_or xs (from + k) 0) f.coding.size) len

-- in each of so many rows of width numbers, the count numbers from the place first on are symbols
unfoldable pub symbol_rows : {A : Type 0} → Field A → List ℕ → ℕ → ℕ → ℕ → ℕ → Bool
symbol_rows f xs rows width first count = all (λ r. symbols_from f xs (r * width + first) count) rows
