-- The field of 256 symbols, by the polynomial x^8 + x^4 + x^3 + x^2 + 1, hex 11D, with the root z = 2.
-- Assumes nothing.
use Rattle.std.specs.Prelude.{ℕ, zero, suc, ◌*◌, ◌/◌, ◌%◌, bit_xor}

infixl 60 ◌⊕◌
infixl 70 ◌⊗◌
-- the sum of two symbols: exclusive or
unfoldable pub ◌⊕◌ : ℕ → ℕ → ℕ
a ⊕ b = bit_xor a b

-- x^8 + x^4 + x^3 + x^2 + 1, a bit for each power
abbrev pub polynomial : ℕ
polynomial = 0x11D

-- z times b: b shifted up by one bit, less the polynomial where bit 7 of b was set
unfoldable pub mulz : ℕ → ℕ
mulz b = b * 2 ⊕ b / 128 % 2 * polynomial

-- the n low bits of a, times b: shift and add
unfoldable pub shift_add : ℕ → ℕ → ℕ → ℕ
shift_add zero a b = 0
shift_add (suc n) a b = a % 2 * b ⊕ shift_add n (a / 2) (mulz b)

-- the product of two symbols (of a number above 255 the 8 low bits count)
unfoldable pub ◌⊗◌ : ℕ → ℕ → ℕ
a ⊗ b = shift_add 8 a (b % 256)

-- the powers of a symbol
unfoldable pub power : ℕ → ℕ → ℕ
power x zero = 1
power x (suc e) = x ⊗ power x e

-- the root z
abbrev pub root : ℕ
root = 2

-- the number of its powers
abbrev pub order : ℕ
order = 255

-- the powers of the root
unfoldable pub zpow : ℕ → ℕ
zpow i = power root i
