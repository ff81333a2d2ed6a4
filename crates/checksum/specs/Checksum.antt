-- The checksum: CRC-64 as xz has it, bit by bit. Nobody has to believe the steps: that they give the remainder of the bytes, as a
-- polynomial over two elements, by the polynomial of ECMA-182 is claimed in Claims.antt.
-- Assumes nothing.
use Rattle.std.specs.Prelude.{List, [], ◌∷◌, ℕ, zero, suc, ◌*◌, ◌/◌, ◌%◌}
use Rattle.symbol.specs.Arithmetic.{◌⊕◌}

-- the polynomial of ECMA-182 without x^64, its 64 bits in reverse order: the lowest is the coefficient of x^63
abbrev pub reversed : ℕ
reversed = 0xC96C5795D7870F42

-- 64 bits, all set
abbrev pub ones : ℕ
ones = 0xFFFFFFFFFFFFFFFF

-- one bit: shifted down, and where the lowest bit was set the polynomial is added
unfoldable pub step : ℕ → ℕ
step r = r / 2 ⊕ r % 2 * reversed

-- n bits
unfoldable pub steps : ℕ → ℕ → ℕ
steps zero r = r
steps (suc n) r = steps n (step r)

-- a list of bytes: each is added, and eight steps follow
unfoldable pub fed : ℕ → List ℕ → ℕ
fed r [] = r
fed r (b ∷ bs) = fed (steps 8 (r ⊕ b)) bs

-- the checksum of a list of bytes that follow those of which start is the checksum, 0 for none: the complement before and after
unfoldable pub checksum_of : ℕ → List ℕ → ℕ
checksum_of start bytes = fed (start ⊕ ones) bytes ⊕ ones
