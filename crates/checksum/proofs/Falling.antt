-- The n lowest bits of a number as coefficients of falling powers, times p: `times (bits n a) p` by recursion over n, and its laws.
-- Assumes nothing.
use mathlib.Core.Path.{◌≡◌, refl, sym, ap, ap₂, ◌∙◌}
use mathlib.Core.List.{List, [], ◌∷◌, ◌++◌}
use Prim.Native.Nat.{ℕ, zero, suc, ◌+◌, ◌*◌, ◌/◌, ◌%◌, ◌^◌, ◌<◌}
use native.Mathlib.Nat.{add-zero, zero-add, suc-add, zero-mul, mul_assoc, mul_comm, mul_right_comm, pow-suc}
use native.Mathlib.Omega.{arith}
use lib.Bits.{bit_xor, xor_block}
use lib.ListN.{length, length-append}
use lib.Pow.{pow-add, pow_pos}
use Rattle.symbol.specs.Arithmetic.{◌⊕◌}
use Rattle.symbol.proofs.Xor.{⊕-assoc, zero_⊕, ⊕-half, ⊕-bit, ⊕-swap}
use Rattle.checksum.specs.Remainder.{times, bits, bits_of}

unfoldable pub falling : ℕ → ℕ → ℕ → ℕ
falling zero a p = 0
falling (suc n) a p = a % 2 * (p * 2 ^ n) ⊕ falling n (a / 2) p

length_bits : (n a : ℕ) → length (bits n a) ≡ n
unfolding bits
length_bits zero a = refl
length_bits (suc n) a = ap suc (length_bits n (a / 2))

pub times_bits : (n a p : ℕ) → times (bits n a) p ≡ falling n a p
unfolding bits times falling
times_bits zero a p = refl
times_bits (suc n) a p = ap₂ (λ k y. a % 2 * (p * 2 ^ k) ⊕ y) (length_bits n (a / 2)) (times_bits n (a / 2) p)

pub falling_⊕ : (n a b p : ℕ) → falling n (a ⊕ b) p ≡ falling n a p ⊕ falling n b p
unfolding falling
falling_⊕ zero a b p = sym (zero_⊕ 0)
falling_⊕ (suc n) a b p =
    ap₂ ◌⊕◌ (⊕-bit a b (p * 2 ^ n)) (ap (λ x. falling n x p) (⊕-half a b) ∙ falling_⊕ n (a / 2) (b / 2) p)
    ∙ ⊕-swap (a % 2 * (p * 2 ^ n)) (b % 2 * (p * 2 ^ n)) (falling n (a / 2) p) (falling n (b / 2) p)

-- an even number has the coefficients of its half, each a power lower
pub falling_double : (n a p : ℕ) → falling (suc n) (a * 2) p ≡ falling n a p
unfolding falling
falling_double n a p =
    ap₂ (λ x y. x * (p * 2 ^ n) ⊕ falling n y p) even half
    ∙ ap (λ x. x ⊕ falling n a p) (zero-mul (p * 2 ^ n)) ∙ zero_⊕ (falling n a p)
  where
    even : a * 2 % 2 ≡ 0
    even = omega arith

    half : a * 2 / 2 ≡ a
    half = omega arith

pub falling_byte : (n a p : ℕ) → falling (8 + n) (a * 256) p ≡ falling n a p
falling_byte n a p =
    down (8 + n) (7 + n) (a * 256) (a * 128) (omega arith) (omega arith)
    ∙ down (7 + n) (6 + n) (a * 128) (a * 64) (omega arith) (omega arith)
    ∙ down (6 + n) (5 + n) (a * 64) (a * 32) (omega arith) (omega arith)
    ∙ down (5 + n) (4 + n) (a * 32) (a * 16) (omega arith) (omega arith)
    ∙ down (4 + n) (3 + n) (a * 16) (a * 8) (omega arith) (omega arith)
    ∙ down (3 + n) (2 + n) (a * 8) (a * 4) (omega arith) (omega arith)
    ∙ down (2 + n) (1 + n) (a * 4) (a * 2) (omega arith) (omega arith)
    ∙ down (1 + n) n (a * 2) a (omega arith) (omega arith)
  where
    down : (m k x y : ℕ) → m ≡ suc k → x ≡ y * 2 → falling m x p ≡ falling k y p
    down m k x y d e = ap₂ (λ i z. falling i z p) d e ∙ falling_double k y p

falling_zero : (n p : ℕ) → falling n 0 p ≡ 0
unfolding falling
falling_zero zero p = refl
falling_zero (suc n) p = ap₂ ◌⊕◌ (zero-mul (p * 2 ^ n)) (falling_zero n p) ∙ zero_⊕ 0

-- a number of m bits: the n bits above are zero, so each coefficient is n powers higher
pub falling_short : (m n a p : ℕ) → a < 2 ^ m → falling (m + n) a p ≡ falling m a (p * 2 ^ n)
unfolding falling
falling_short zero n a p h = ap₂ (λ k x. falling k x p) (zero-add n) none ∙ falling_zero n p
  where
    none : a ≡ 0
    none = omega arith
falling_short (suc m) n a p h =
    ap (λ k. falling k a p) (suc-add m n)
    ∙ ap₂ (λ x y. a % 2 * x ⊕ y) higher (falling_short m n (a / 2) p half)
  where
    higher : p * 2 ^ (m + n) ≡ p * 2 ^ n * 2 ^ m
    higher = ap (λ x. p * x) (pow-add 2 m n ∙ mul_comm (2 ^ m) (2 ^ n)) ∙ sym (mul_assoc p (2 ^ n) (2 ^ m))

    half : a / 2 < 2 ^ m
    half = let g = pow-suc 2 m in omega arith

⊕-shift : (k a b : ℕ) → (a ⊕ b) * 2 ^ k ≡ a * 2 ^ k ⊕ b * 2 ^ k
unfolding ◌⊕◌
⊕-shift k a b =
    sym (add-zero (bit_xor a b * 2 ^ k)) ∙ sym (xor_block k a b 0 0 (pow_pos k) (pow_pos k))
    ∙ ap₂ bit_xor (add-zero (a * 2 ^ k)) (add-zero (b * 2 ^ k))

-- times x^k
pub falling_shift : (n k a p : ℕ) → falling n a (p * 2 ^ k) ≡ falling n a p * 2 ^ k
unfolding falling
falling_shift zero k a p = sym (zero-mul (2 ^ k))
falling_shift (suc n) k a p =
    ap₂ ◌⊕◌ later (falling_shift n k (a / 2) p) ∙ sym (⊕-shift k (a % 2 * (p * 2 ^ n)) (falling n (a / 2) p))
  where
    later : a % 2 * (p * 2 ^ k * 2 ^ n) ≡ a % 2 * (p * 2 ^ n) * 2 ^ k
    later = ap (λ x. a % 2 * x) (mul_right_comm p (2 ^ k) (2 ^ n)) ∙ sym (mul_assoc (a % 2) (p * 2 ^ n) (2 ^ k))

-- ---- bytes

times_append : (xs bs : List ℕ) (p : ℕ) → times (xs ++ bs) p ≡ times xs (p * 2 ^ length bs) ⊕ times bs p
unfolding times
times_append [] bs p = sym (zero_⊕ (times bs p))
times_append (a ∷ xs) bs p =
    ap₂ (λ x y. a * x ⊕ y) higher (times_append xs bs p)
    ∙ sym (⊕-assoc (a * (p * 2 ^ length bs * 2 ^ length xs)) (times xs (p * 2 ^ length bs)) (times bs p))
  where
    higher : p * 2 ^ length (xs ++ bs) ≡ p * 2 ^ length bs * 2 ^ length xs
    higher =
        ap (λ n. p * 2 ^ n) (length-append xs bs)
        ∙ ap (λ x. p * x) (pow-add 2 (length xs) (length bs) ∙ mul_comm (2 ^ length xs) (2 ^ length bs))
        ∙ sym (mul_assoc p (2 ^ length bs) (2 ^ length xs))

length_bits_of : (bs : List ℕ) → length (bits_of bs) ≡ 8 * length bs
unfolding bits_of
length_bits_of [] = refl
length_bits_of (b ∷ bs) = length-append (bits 8 b) (bits_of bs) ∙ ap₂ ◌+◌ (length_bits 8 b) (length_bits_of bs) ∙ longer
  where
    longer : 8 + 8 * length bs ≡ 8 * suc (length bs)
    longer = omega arith

pub times_byte : (b : ℕ) (bs : List ℕ) (p : ℕ) → times (bits_of (b ∷ bs)) p ≡ falling 8 b (p * 2 ^ (8 * length bs)) ⊕ times (bits_of bs) p
unfolding bits_of
times_byte b bs p =
    times_append (bits 8 b) (bits_of bs) p
    ∙ ap (λ x. x ⊕ times (bits_of bs) p) first
  where
    first : times (bits 8 b) (p * 2 ^ length (bits_of bs)) ≡ falling 8 b (p * 2 ^ (8 * length bs))
    first = ap (λ n. times (bits 8 b) (p * 2 ^ n)) (length_bits_of bs) ∙ times_bits 8 b (p * 2 ^ (8 * length bs))
