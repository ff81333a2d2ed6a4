-- Polynomials over two elements, and the remainder that a checksum is. A polynomial is a number: bit i is the coefficient of x^i. So the
-- sum is ⊕, and 2 ^ k is x^k.
-- Assumes nothing.
use Rattle.std.specs.Prelude.{◌≡◌, List, [], ◌∷◌, ◌++◌, ℕ, zero, suc, ◌*◌, ◌/◌, ◌%◌, ◌^◌, length}
use Rattle.symbol.specs.Arithmetic.{◌⊕◌}

-- the polynomial of ECMA-182, of degree 64
abbrev pub polynomial : ℕ
polynomial = 0x142F0E1EBA9EA3693

-- the polynomial with these coefficients, the highest power first, times p
unfoldable pub times : List ℕ → ℕ → ℕ
times [] p = 0
times (c ∷ cs) p = c * (p * 2 ^ length cs) ⊕ times cs p

-- the n lowest bits of a number, the lowest first
unfoldable pub bits : ℕ → ℕ → List ℕ
bits zero a = []
bits (suc n) a = a % 2 ∷ bits n (a / 2)

-- the bits of bytes in their order, of each byte the lowest first
unfoldable pub bits_of : List ℕ → List ℕ
bits_of [] = []
bits_of (b ∷ bs) = bits 8 b ++ bits_of bs

-- the bits of r are the remainder, of degree below 64, of the bits of the bytes times x^64, with those of start added to the highest 64:
-- there is a quotient with which bytes · x^64 + start · x^k = quotient · polynomial + r, where k is the number of the bytes' bits
pub record Remainder (start : ℕ) (bytes : List ℕ) (r : ℕ) : Type 0 where
  pub quotient : ℕ
  pub divided : times (bits_of bytes) (2 ^ 64) ⊕ times (bits 64 start) (2 ^ (8 * length bytes))
      ≡ times (bits (8 * length bytes) quotient) polynomial ⊕ times (bits 64 r) 1
