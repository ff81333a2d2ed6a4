-- The steps are the long division: what they leave is the remainder by the polynomial of ECMA-182.
-- Assumes nothing.
use mathlib.Core.Path.{◌≡◌, refl, sym, ap, ap₂, subst, ◌∙◌}
use mathlib.Core.List.{List, [], ◌∷◌}
use Prim.Native.Nat.{ℕ, zero, suc, ◌+◌, ◌*◌, ◌/◌, ◌%◌, ◌^◌, ◌<◌}
use native.Mathlib.Nat.{zero-add, suc-add, add_comm, zero-mul, one-mul, mul_comm, div-add-mod'}
use native.Mathlib.Nat.{mod-lt, zero-lt-suc, not-suc-le-zero, le_of_suc-le-suc}
use native.Mathlib.Omega.{arith}
use lib.Bits.{xor_shifted, xor_lt}
use lib.ListN.{length, get_or}
use lib.Pow.{pow-add}
use Rattle.symbol.specs.Arithmetic.{◌⊕◌}
use Rattle.symbol.proofs.Xor.{⊕-comm, ⊕-assoc, ⊕-zero, zero_⊕, ⊕-left-comm, ⊕-double}
use Rattle.checksum.specs.Checksum.{reversed, ones, step, steps, fed, checksum_of}
use Rattle.checksum.specs.Remainder.{polynomial, times, bits, bits_of, Remainder}
use Rattle.checksum.proofs.Steps.{steps_⊕, steps_add, eight_even}
use Rattle.checksum.proofs.Parts.{⊕-twice, back}
use Rattle.checksum.proofs.Falling.{falling, falling_⊕, falling_double, falling_byte, falling_short, falling_shift}
use Rattle.checksum.proofs.Falling.{times_bits, times_byte}

-- the polynomial's 65 bits in reverse order
abbrev whole : ℕ
whole = reversed * 2 + 1

-- a step, undone: the bit that went out times the polynomial, and what is left times x
step_back : (r : ℕ) → r % 2 * whole ⊕ step r * 2 ≡ r
unfolding step
step_back r =
    ap₂ ◌⊕◌ (bit_whole (r % 2) (mod-lt r (zero-lt-suc 1))) (⊕-double (r / 2) (r % 2 * reversed))
    ∙ ap (λ x. r % 2 * reversed * 2 ⊕ r % 2 ⊕ x) (⊕-comm (r / 2 * 2) (r % 2 * reversed * 2))
    ∙ cancel (r % 2 * reversed * 2) (r % 2) (r / 2 * 2)
    ∙ low
  where
    bit_whole : (t : ℕ) → t < 2 → t * whole ≡ t * reversed * 2 ⊕ t
    bit_whole t h = (let e : t * whole ≡ t * reversed * 2 + t = omega arith in e) ∙ sym (unfold ◌⊕◌ in xor_shifted (t * reversed) 1 t h)

    cancel : (a b c : ℕ) → a ⊕ b ⊕ (a ⊕ c) ≡ c ⊕ b
    cancel a b c = ⊕-assoc a b (a ⊕ c) ∙ ap (λ x. a ⊕ x) (⊕-left-comm b a c) ∙ ⊕-twice a (b ⊕ c) ∙ ⊕-comm b c

    low : r / 2 * 2 ⊕ r % 2 ≡ r
    low = unfold ◌⊕◌ in xor_shifted (r / 2) 1 (r % 2) (mod-lt r (zero-lt-suc 1)) ∙ div-add-mod' r 2

-- the bits that go out in n steps, the first one lowest
quotient : ℕ → ℕ → ℕ
quotient zero x = 0
quotient (suc n) x = quotient n (step x) * 2 + x % 2

whole_is : falling 65 whole 1 ≡ polynomial
unfolding falling ◌⊕◌
whole_is = refl

none_is : falling 65 0 1 ≡ 0
unfolding falling ◌⊕◌
none_is = refl

-- a bit times the polynomial, n powers higher
whole_shifted : (n t : ℕ) → t < 2 → falling (suc (n + 64)) (t * whole) 1 ≡ t * (polynomial * 2 ^ n)
whole_shifted n t h =
    ap (λ k. falling k (t * whole) 1) order ∙ falling_short 65 n (t * whole) 1 small ∙ falling_shift 65 n (t * whole) 1 ∙ bit t h
  where
    order : suc (n + 64) ≡ 65 + n
    order = omega arith

    small : t * whole < 2 ^ 65
    small = omega arith

    bit : (u : ℕ) → u < 2 → falling 65 (u * whole) 1 * 2 ^ n ≡ u * (polynomial * 2 ^ n)
    bit zero l = ap (λ x. x * 2 ^ n) none_is ∙ zero-mul (2 ^ n) ∙ sym (zero-mul (polynomial * 2 ^ n))
    bit (suc zero) l = ap (λ x. x * 2 ^ n) whole_is ∙ sym (one-mul (polynomial * 2 ^ n))
    bit (suc (suc u)) l = absurd (not-suc-le-zero (le_of_suc-le-suc (le_of_suc-le-suc l)))

divided : (n x : ℕ) → falling (n + 64) x 1 ≡ falling n (quotient n x) polynomial ⊕ falling 64 (steps n x) 1
unfolding steps falling quotient
divided zero x = ap (λ k. falling k x 1) (zero-add 64) ∙ sym (zero_⊕ (falling 64 x 1))
divided (suc n) x =
    ap (λ k. falling k x 1) (suc-add n 64)
    ∙ ap (λ y. falling (suc (n + 64)) y 1) (sym (step_back x))
    ∙ falling_⊕ (suc (n + 64)) (x % 2 * whole) (step x * 2) 1
    ∙ ap₂ ◌⊕◌ (whole_shifted n (x % 2) (mod-lt x (zero-lt-suc 1))) (falling_double (n + 64) (step x) 1 ∙ divided n (step x))
    ∙ sym (⊕-assoc (x % 2 * (polynomial * 2 ^ n)) (falling n (quotient n (step x)) polynomial) (falling 64 (steps n (step x)) 1))
    ∙ ap₂ (λ a b. a * (polynomial * 2 ^ n) ⊕ falling n b polynomial ⊕ falling 64 (steps n (step x)) 1) out rest
  where
    out : x % 2 ≡ (quotient n (step x) * 2 + x % 2) % 2
    out = omega arith

    rest : quotient n (step x) ≡ (quotient n (step x) * 2 + x % 2) / 2
    rest = omega arith

-- the bytes as one number, the first one lowest
number : List ℕ → ℕ
number [] = 0
number (b ∷ bs) = b ⊕ number bs * 256

fed_steps : (r : ℕ) (bs : List ℕ) → fed r bs ≡ steps (8 * length bs) (r ⊕ number bs)
unfolding fed steps number
fed_steps r [] = sym (⊕-zero r)
fed_steps r (b ∷ bs) =
    fed_steps (steps 8 (r ⊕ b)) bs
    ∙ ap (λ x. steps (8 * length bs) (steps 8 (r ⊕ b) ⊕ x)) (sym (eight_even (number bs)))
    ∙ ap (steps (8 * length bs)) (sym (steps_⊕ 8 (r ⊕ b) (number bs * 256)) ∙ ap (steps 8) (⊕-assoc r b (number bs * 256)))
    ∙ sym (steps_add 8 (8 * length bs) (r ⊕ (b ⊕ number bs * 256)))
    ∙ ap (λ n. steps n (r ⊕ (b ⊕ number bs * 256))) longer
  where
    longer : 8 + 8 * length bs ≡ 8 * suc (length bs)
    longer = omega arith

message_none : falling 64 0 1 ≡ times (bits_of []) (2 ^ 64)
unfolding falling times bits_of ◌⊕◌
message_none = refl

-- the bytes' bits with 64 zeros behind
message : (bs : List ℕ) → ((i : ℕ) → get_or bs i 0 < 256) → falling (8 * length bs + 64) (number bs) 1 ≡ times (bits_of bs) (2 ^ 64)
unfolding number
message [] h = message_none
message (b ∷ bs) h =
    ap (λ n. falling n (b ⊕ number bs * 256) 1) longer
    ∙ falling_⊕ (8 + (8 * length bs + 64)) b (number bs * 256) 1
    ∙ ap₂ ◌⊕◌
    (falling_short 8 (8 * length bs + 64) b 1 (h 0) ∙ ap (falling 8 b) higher)
    (falling_byte (8 * length bs + 64) (number bs) 1 ∙ message bs (λ i. h (suc i)))
    ∙ sym (times_byte b bs (2 ^ 64))
  where
    longer : 8 * suc (length bs) + 64 ≡ 8 + (8 * length bs + 64)
    longer = omega arith

    higher : 1 * 2 ^ (8 * length bs + 64) ≡ 2 ^ 64 * 2 ^ (8 * length bs)
    higher = one-mul (2 ^ (8 * length bs + 64)) ∙ pow-add 2 (8 * length bs) 64 ∙ mul_comm (2 ^ (8 * length bs)) (2 ^ 64)

-- before the first byte
started : (r k : ℕ) → r < 2 ^ 64 → falling (k + 64) r 1 ≡ times (bits 64 r) (2 ^ k)
started r k h =
    ap (λ n. falling n r 1) (add_comm k 64) ∙ falling_short 64 k r 1 h ∙ ap (falling 64 r) (one-mul (2 ^ k))
    ∙ sym (times_bits 64 r (2 ^ k))

fed_remains : (r : ℕ) (bs : List ℕ) → r < 2 ^ 64 → ((i : ℕ) → get_or bs i 0 < 256) → Remainder r bs (fed r bs)
fed_remains r bs h g = record {
  quotient = quotient (8 * length bs) (r ⊕ number bs);
  divided =
      ap₂ ◌⊕◌ (sym (message bs g)) (sym (started r (8 * length bs) h))
      ∙ ⊕-comm (falling (8 * length bs + 64) (number bs) 1) (falling (8 * length bs + 64) r 1)
      ∙ sym (falling_⊕ (8 * length bs + 64) r (number bs) 1)
      ∙ divided (8 * length bs) (r ⊕ number bs)
      ∙ ap₂ ◌⊕◌
      (sym (times_bits (8 * length bs) (quotient (8 * length bs) (r ⊕ number bs)) polynomial))
      (ap (λ x. falling 64 x 1) (sym (fed_steps r bs)) ∙ sym (times_bits 64 (fed r bs) 1));
}

pub checksum_remains : (start : ℕ) (bytes : List ℕ) → start < 2 ^ 64 → ((i : ℕ) → get_or bytes i 0 < 256)
    → Remainder (start ⊕ ones) bytes (checksum_of start bytes ⊕ ones)
checksum_remains start bytes h g = subst (Remainder (start ⊕ ones) bytes) complemented (fed_remains (start ⊕ ones) bytes below g)
  where
    below : start ⊕ ones < 2 ^ 64
    below = unfold ◌⊕◌ in xor_lt 64 start ones h (omega arith)

    complemented : fed (start ⊕ ones) bytes ≡ checksum_of start bytes ⊕ ones
    complemented = unfold checksum_of in sym (back (fed (start ⊕ ones) bytes))
