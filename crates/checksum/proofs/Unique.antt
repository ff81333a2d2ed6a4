-- The remainder is settled: no two numbers of 64 bits are remainders of the same bytes.
-- Assumes nothing.
use mathlib.Core.Path.{◌≡◌, refl, sym, ap, ap₂, subst, ◌∙◌}
use mathlib.Core.List.{List}
use Prim.Native.Nat.{ℕ, zero, suc, ◌+◌, ◌*◌, ◌/◌, ◌%◌, ◌^◌, ◌<◌}
use native.Mathlib.Nat.{zero-add, zero-mul, one-mul, mul_comm, pow-suc, mod-lt, zero-lt-suc}
use native.Mathlib.Nat.{div-eq_of_lt, div-div-eq-div-mul, mul-div_cancel}
use native.Mathlib.Nat.{not-suc-le-zero, le_of_suc-le-suc, lt_of_lt_of_le, mul-lt-mul_of_pos_right}
use native.Mathlib.Omega.{arith}
use lib.Bits.{xor_lt}
use lib.ListN.{length}
use lib.Pow.{pow-add, pow_pos, pow_mono}
use Rattle.symbol.specs.Arithmetic.{◌⊕◌}
use Rattle.symbol.proofs.Xor.{⊕-assoc, zero_⊕, ⊕-zero, ⊕-shr}
use Rattle.checksum.specs.Remainder.{polynomial, bits, times, Remainder}
use Rattle.checksum.proofs.Parts.{⊕-twice}
use Rattle.checksum.proofs.Falling.{falling, times_bits}

-- h is of degree m: of a bit times h and what is of lower degree, the sum tells the bit
higher : (h m y y' : ℕ) → h / 2 ^ m ≡ 1 → y < 2 ^ m → y' < 2 ^ m → y ≡ h ⊕ y' → ⊥
higher h m y y' one l l' e =
    apart (ap (λ x. x / 2 ^ m) e) (div-eq_of_lt l) (⊕-shr h y' m ∙ ap₂ ◌⊕◌ one (div-eq_of_lt l') ∙ ⊕-zero 1)
  where
    apart : {a b : ℕ} → a ≡ b → a ≡ 0 → b ≡ 1 → ⊥
    apart p q r = omega arith

none : (h y : ℕ) → 0 * h ⊕ y ≡ y
none h y = ap (λ x. x ⊕ y) (zero-mul h) ∙ zero_⊕ y

once : (h y : ℕ) → 1 * h ⊕ y ≡ h ⊕ y
once h y = ap (λ x. x ⊕ y) (one-mul h)

-- a bit times h, and the rest
rest : (h m c c' y y' : ℕ) → h / 2 ^ m ≡ 1 → c < 2 → c' < 2 → y < 2 ^ m → y' < 2 ^ m → c * h ⊕ y ≡ c' * h ⊕ y' → (c ≡ c') × (y ≡ y')
rest h m zero zero y y' one b b' l l' e = (refl, sym (none h y) ∙ e ∙ none h y')
rest h m zero (suc zero) y y' one b b' l l' e = absurd (higher h m y y' one l l' (sym (none h y) ∙ e ∙ once h y'))
rest h m (suc zero) zero y y' one b b' l l' e = absurd (higher h m y' y one l' l (sym (none h y') ∙ sym e ∙ once h y))
rest h m (suc zero) (suc zero) y y' one b b' l l' e =
    (refl, sym (⊕-twice (1 * h) y) ∙ ap (λ x. 1 * h ⊕ x) e ∙ ⊕-twice (1 * h) y')
rest h m (suc (suc c)) c' y y' one b b' l l' e = absurd (not-suc-le-zero (le_of_suc-le-suc (le_of_suc-le-suc b)))
rest h m zero (suc (suc c')) y y' one b b' l l' e = absurd (not-suc-le-zero (le_of_suc-le-suc (le_of_suc-le-suc b')))
rest h m (suc zero) (suc (suc c')) y y' one b b' l l' e = absurd (not-suc-le-zero (le_of_suc-le-suc (le_of_suc-le-suc b')))

bit_lt : (a : ℕ) → a % 2 < 2
bit_lt a = mod-lt a (zero-lt-suc 1)

bit_times : (c x m : ℕ) → c < 2 → x < m → c * x < m
bit_times zero x m b l = subst (λ y. y < m) (sym (zero-mul x)) (omega arith)
bit_times (suc zero) x m b l = subst (λ y. y < m) (sym (one-mul x)) l
bit_times (suc (suc c)) x m b l = absurd (not-suc-le-zero (le_of_suc-le-suc (le_of_suc-le-suc b)))

-- p of degree d at most, a of n bits: the product is of degree below d + n
falling_lt : (d n a p : ℕ) → p < 2 ^ suc d → falling n a p < 2 ^ (d + n)
unfolding falling ◌⊕◌
falling_lt d zero a p h = pow_pos (d + 0)
falling_lt d (suc n) a p h =
    xor_lt (d + suc n) (a % 2 * (p * 2 ^ n)) (falling n (a / 2) p) (bit_times (a % 2) (p * 2 ^ n) (2 ^ (d + suc n)) (bit_lt a) first)
    (lt_of_lt_of_le (falling_lt d n (a / 2) p h) (pow_mono (omega arith)))
  where
    longer : suc d + n ≡ d + suc n
    longer = omega arith

    first : p * 2 ^ n < 2 ^ (d + suc n)
    first = subst (λ y. p * 2 ^ n < y) (sym (pow-add 2 (suc d) n) ∙ ap (λ m. 2 ^ m) longer) (mul-lt-mul_of_pos_right h (pow_pos n))

-- the polynomial times x^n is of degree 64 + n
leading : (n : ℕ) → polynomial * 2 ^ n / 2 ^ (64 + n) ≡ 1
leading n =
    ap (λ y. polynomial * 2 ^ n / y) (pow-add 2 64 n ∙ mul_comm (2 ^ 64) (2 ^ n))
    ∙ sym (div-div-eq-div-mul (polynomial * 2 ^ n) (2 ^ n) (2 ^ 64)) ∙ ap (λ y. y / 2 ^ 64) (mul-div_cancel polynomial (pow_pos n))

-- equal sums of a multiple of the polynomial and a rest of degree below 64 have equal rests
settled : (n q q' x x' : ℕ) → x < 2 ^ 64 → x' < 2 ^ 64 → falling n q polynomial ⊕ x ≡ falling n q' polynomial ⊕ x' → x ≡ x'
unfolding falling
settled zero q q' x x' l l' e = sym (zero_⊕ x) ∙ e ∙ zero_⊕ x'
settled (suc n) q q' x x' l l' e =
    settled n (q / 2) (q' / 2) x x' l l'
    (rest (polynomial * 2 ^ n) (64 + n) (q % 2) (q' % 2) (falling n (q / 2) polynomial ⊕ x) (falling n (q' / 2) polynomial ⊕ x')
    (leading n) (bit_lt q) (bit_lt q') (low (q / 2) x l) (low (q' / 2) x' l')
    (sym (⊕-assoc (q % 2 * (polynomial * 2 ^ n)) (falling n (q / 2) polynomial) x) ∙ e
    ∙ ⊕-assoc (q' % 2 * (polynomial * 2 ^ n)) (falling n (q' / 2) polynomial) x')).1
  where
    low : (p y : ℕ) → y < 2 ^ 64 → falling n p polynomial ⊕ y < 2 ^ (64 + n)
    low p y h = unfold ◌⊕◌ in xor_lt (64 + n) (falling n p polynomial) y (falling_lt 64 n p polynomial (omega arith))
        (lt_of_lt_of_le h (pow_mono {i = 64} {j = 64 + n} (omega arith)))

falling_below : (n a : ℕ) → falling n a 1 < 2 ^ n
falling_below n a = subst (λ k. falling n a 1 < 2 ^ k) (zero-add n) (falling_lt 0 n a 1 (omega arith))

falling_injective : (n a b : ℕ) → a < 2 ^ n → b < 2 ^ n → falling n a 1 ≡ falling n b 1 → a ≡ b
unfolding falling
falling_injective zero a b l m e = omega arith
falling_injective (suc n) a b l m e =
    let both = rest (1 * 2 ^ n) n (a % 2) (b % 2) (falling n (a / 2) 1) (falling n (b / 2) 1)
    (mul-div_cancel 1 (pow_pos n)) (bit_lt a) (bit_lt b) (falling_below n (a / 2)) (falling_below n (b / 2)) e in
    joined both.0 (falling_injective n (a / 2) (b / 2) (half a l) (half b m) both.1)
  where
    half : (c : ℕ) → c < 2 ^ suc n → c / 2 < 2 ^ n
    half c h = let g = pow-suc 2 n in omega arith

    joined : a % 2 ≡ b % 2 → a / 2 ≡ b / 2 → a ≡ b
    joined p q = omega arith

pub remainder_unique : (start : ℕ) (bytes : List ℕ) (r r' : ℕ) → r < 2 ^ 64 → r' < 2 ^ 64
    → Remainder start bytes r → Remainder start bytes r' → r ≡ r'
remainder_unique start bytes r r' l l' p p' =
    falling_injective 64 r r' l l'
    (settled (8 * length bytes) p.quotient p'.quotient (falling 64 r 1) (falling 64 r' 1) (falling_below 64 r) (falling_below 64 r')
    (sym (plain p.quotient r) ∙ sym p.divided ∙ p'.divided ∙ plain p'.quotient r'))
  where
    plain : (q x : ℕ) → times (bits (8 * length bytes) q) polynomial ⊕ times (bits 64 x) 1
        ≡ falling (8 * length bytes) q polynomial ⊕ falling 64 x 1
    plain q x = ap₂ ◌⊕◌ (times_bits (8 * length bytes) q polynomial) (times_bits 64 x 1)
