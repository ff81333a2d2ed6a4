-- The part of one codeword in a buffer of many that lie interleaved.
-- Assumes nothing.
use Rattle.std.specs.Prelude.{List, ℕ, ◌+◌, ◌*◌, ◌/◌, length, get_or}
use Rattle.lists.specs.Lists.{table}

-- the symbols of codeword q of m that lie side by side: every m-th, from place q on
unfoldable pub part : ℕ → ℕ → List ℕ → List ℕ
part m q xs = table (λ i. get_or xs (i * m + q) 0) (length xs / m)
