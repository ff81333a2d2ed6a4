-- The laws of exclusive or that lib.Bits lacks, over all of ℕ.
-- Assumes nothing.
use Rattle.std.proofs.Common.{◌≡◌, ℕ, zero, suc, ◌+◌, ◌*◌, ◌/◌, ◌%◌, ◌^◌, ◌<◌, sym, refl, ap, ◌∙◌, ap₂, le_of_suc-le-suc, not-suc-le-zero, add-zero, mod-lt, zero-lt-suc, one-mul, zero-mul, arith}
use lib.Arith.{bin_ind, digits_mod}
use lib.Bits.{bit_xor, differ, xor_step, xor_shr, xor_mod, xor_comm, xor_zero_r, xor_self, xor_lt, xor_block}
use Rattle.symbol.specs.Arithmetic.{◌⊕◌}

two_pos : zero < 2
two_pos = zero-lt-suc 1

bit_lt : (a : ℕ) → a % 2 < 2
bit_lt a = mod-lt a two_pos

-- ---- two digits

differ_zero : (x : ℕ) → differ x zero ≡ x
differ_zero zero = refl
differ_zero (suc x) = refl

differ_bit : (x y : ℕ) → x < 2 → y < 2 → differ x y < 2
differ_bit zero y hx hy = hy
differ_bit (suc x) zero hx hy = hx
differ_bit (suc zero) (suc y) hx hy = omega arith
differ_bit (suc (suc x)) (suc y) hx hy = absurd (not-suc-le-zero (le_of_suc-le-suc (le_of_suc-le-suc hx)))

differ_assoc : (x y z : ℕ) → x < 2 → y < 2 → z < 2 → differ (differ x y) z ≡ differ x (differ y z)
differ_assoc zero y z hx hy hz = refl
differ_assoc (suc x) zero z hx hy hz = refl
differ_assoc (suc x) (suc y) zero hx hy hz = differ_zero (differ x y)
differ_assoc (suc zero) (suc zero) (suc zero) hx hy hz = refl
differ_assoc (suc zero) (suc zero) (suc (suc z)) hx hy hz = absurd (not-suc-le-zero (le_of_suc-le-suc (le_of_suc-le-suc hz)))
differ_assoc (suc zero) (suc (suc y)) (suc z) hx hy hz = absurd (not-suc-le-zero (le_of_suc-le-suc (le_of_suc-le-suc hy)))
differ_assoc (suc (suc x)) (suc y) (suc z) hx hy hz = absurd (not-suc-le-zero (le_of_suc-le-suc (le_of_suc-le-suc hx)))

differ_mul : (x y b : ℕ) → x < 2 → y < 2 → differ x y * b ≡ bit_xor (x * b) (y * b)
differ_mul zero y b hx hy = rw zero-mul
differ_mul (suc x) zero b hx hy = rw (zero-mul b) (sym (xor_zero_r (suc x * b)))
differ_mul (suc zero) (suc zero) b hx hy = zero-mul b ∙ sym (xor_self (1 * b))
differ_mul (suc zero) (suc (suc y)) b hx hy = absurd (not-suc-le-zero (le_of_suc-le-suc (le_of_suc-le-suc hy)))
differ_mul (suc (suc x)) (suc y) b hx hy = absurd (not-suc-le-zero (le_of_suc-le-suc (le_of_suc-le-suc hx)))

-- ---- the low digit and the rest

half : (a b : ℕ) → bit_xor a b / 2 ≡ bit_xor (a / 2) (b / 2)
half a b = xor_shr a b 1

odd : (a b : ℕ) → bit_xor a b % 2 ≡ differ (a % 2) (b % 2)
odd a b = ap (λ (x : ℕ). x % 2) (xor_step a b) ∙ digits_mod (bit_xor (a / 2) (b / 2)) (differ_bit (a % 2) (b % 2) (bit_lt a) (bit_lt b))

join : {r r' c c' : ℕ} → r ≡ r' → c ≡ c' → r * 2 + c ≡ r' * 2 + c'
join p q = ap₂ (λ (x y : ℕ). x * 2 + y) p q

assoc : (a b c : ℕ) → bit_xor (bit_xor a b) c ≡ bit_xor a (bit_xor b c)
assoc a =
    bin_ind (λ (n : ℕ). (b c : ℕ) → bit_xor (bit_xor n b) c ≡ bit_xor n (bit_xor b c)) (λ b c. refl)
    (λ n ih b c. xor_step (bit_xor n b) c
    ∙ join
    (ap (λ (x : ℕ). bit_xor x (c / 2)) (half n b) ∙ ih (b / 2) (c / 2) ∙ ap (bit_xor (n / 2)) (sym (half b c)))
    (ap (λ (x : ℕ). differ x (c % 2)) (odd n b) ∙ differ_assoc (n % 2) (b % 2) (c % 2) (bit_lt n) (bit_lt b) (bit_lt c) ∙ ap (differ (n % 2)) (sym (odd b c)))
    ∙ sym (xor_step n (bit_xor b c))) a

-- ---- the laws

pub ⊕-comm : (a b : ℕ) → a ⊕ b ≡ b ⊕ a
unfolding ◌⊕◌
⊕-comm = xor_comm

pub ⊕-assoc : (a b c : ℕ) → a ⊕ b ⊕ c ≡ a ⊕ (b ⊕ c)
unfolding ◌⊕◌
⊕-assoc = assoc

pub zero_⊕ : (a : ℕ) → 0 ⊕ a ≡ a
unfolding ◌⊕◌
zero_⊕ a = refl

pub ⊕-zero : (a : ℕ) → a ⊕ 0 ≡ a
unfolding ◌⊕◌
⊕-zero = xor_zero_r

pub ⊕-self : (a : ℕ) → a ⊕ a ≡ 0
unfolding ◌⊕◌
⊕-self = xor_self

pub ⊕-lt : {a b : ℕ} → a < 256 → b < 256 → a ⊕ b < 256
unfolding ◌⊕◌
⊕-lt {a} {b} ha hb = xor_lt 8 a b ha hb

pub ⊕-half : (a b : ℕ) → (a ⊕ b) / 2 ≡ a / 2 ⊕ b / 2
unfolding ◌⊕◌
⊕-half = half

pub ⊕-shr : (a b k : ℕ) → (a ⊕ b) / 2 ^ k ≡ a / 2 ^ k ⊕ b / 2 ^ k
unfolding ◌⊕◌
⊕-shr = xor_shr

pub ⊕-mod : (a b k : ℕ) → (a ⊕ b) % 2 ^ k ≡ a % 2 ^ k ⊕ b % 2 ^ k
unfolding ◌⊕◌
⊕-mod = xor_mod

-- a number times the low bit of a sum
pub ⊕-bit : (a b c : ℕ) → (a ⊕ b) % 2 * c ≡ a % 2 * c ⊕ b % 2 * c
unfolding ◌⊕◌
⊕-bit a b c = ap (λ (x : ℕ). x * c) (odd a b) ∙ differ_mul (a % 2) (b % 2) c (bit_lt a) (bit_lt b)

-- a sum times a bit
pub bit_⊕ : (t a b : ℕ) → t < 2 → t * (a ⊕ b) ≡ t * a ⊕ t * b
bit_⊕ zero a b h = rw (zero-mul (a ⊕ b), zero-mul a, zero-mul b) (sym (zero_⊕ 0))
bit_⊕ (suc zero) a b h = rw (one-mul (a ⊕ b), one-mul a, one-mul b)
bit_⊕ (suc (suc t)) a b h = absurd (not-suc-le-zero (le_of_suc-le-suc (le_of_suc-le-suc h)))

pub ⊕-double : (a b : ℕ) → (a ⊕ b) * 2 ≡ a * 2 ⊕ b * 2
unfolding ◌⊕◌
⊕-double a b =
    sym (add-zero (bit_xor a b * 2)) ∙ sym (xor_block 1 a b 0 0 two_pos two_pos)
    ∙ ap₂ bit_xor (add-zero (a * 2)) (add-zero (b * 2))

pub ⊕-left-comm : (a b c : ℕ) → a ⊕ (b ⊕ c) ≡ b ⊕ (a ⊕ c)
⊕-left-comm a b c = sym (⊕-assoc a b c) ∙ ap (λ (x : ℕ). x ⊕ c) (⊕-comm a b) ∙ ⊕-assoc b a c

pub ⊕-swap : (a b c d : ℕ) → a ⊕ b ⊕ (c ⊕ d) ≡ a ⊕ c ⊕ (b ⊕ d)
⊕-swap a b c d = ⊕-assoc a b (c ⊕ d) ∙ ap (λ (x : ℕ). a ⊕ x) (⊕-left-comm b c d) ∙ sym (⊕-assoc a c (b ⊕ d))
