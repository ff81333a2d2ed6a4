-- The laws of the field.
-- Assumes nothing.
use Rattle.std.proofs.Common.{◌≡◌, ℕ, zero, suc, ◌*◌, ◌/◌, ◌%◌, ◌^◌, ◌<◌, Bool, eqb, ltb, sym, refl, ap, ◌∙◌, ap₂, mod-lt, mod-eq_of_lt, zero-lt-suc, one-mul, mul-zero, zero-mul, add-one, arith, lit<, eqb→eq, ltb→lt}
use lib.Pow.{field, mod-mod-pow}
use Rattle.symbol.specs.Arithmetic.{◌⊕◌, polynomial, mulz, shift_add, ◌⊗◌}
use Rattle.lists.proofs.Computed.{all_below_lem}
use Rattle.symbol.proofs.Xor.{zero_⊕, ⊕-lt, ⊕-half, ⊕-shr, ⊕-mod, ⊕-bit, bit_⊕, ⊕-double, ⊕-swap}

-- ---- z times a symbol

pub mulz_⊕ : (a b : ℕ) → mulz (a ⊕ b) ≡ mulz a ⊕ mulz b
unfolding mulz
mulz_⊕ a b =
    ap₂ (λ (x y : ℕ). x ⊕ y % 2 * polynomial) (⊕-double a b) (⊕-shr a b 7)
    ∙ ap (λ (x : ℕ). a * 2 ⊕ b * 2 ⊕ x) (⊕-bit (a / 128) (b / 128) polynomial)
    ∙ ⊕-swap (a * 2) (b * 2) (a / 128 % 2 * polynomial) (b / 128 % 2 * polynomial)

closed : ℕ → Bool
closed b = ltb (mulz b) 256

pub mulz_lt : {b : ℕ} → b < 256 → mulz b < 256
unfolding closed mulz ◌⊕◌
mulz_lt {b} h = ltb→lt (mulz b) 256 (all_below_lem closed 256 tt b h)

pub mulz_zero : mulz 0 ≡ 0
unfolding mulz ◌⊕◌
mulz_zero = refl

-- ---- shift and add

bit_lt : (a : ℕ) → a % 2 < 2
bit_lt a = mod-lt a (zero-lt-suc 1)

bit_times_lt : (a : ℕ) {b : ℕ} → b < 256 → a % 2 * b < 256
bit_times_lt a {b} h = go (a % 2) (bit_lt a)
  where
    go : (t : ℕ) → t < 2 → t * b < 256
    go zero l = rw zero-mul (lit< tt)
    go (suc zero) l = omega arith
    go (suc (suc t)) l = absurd (omega arith)

shift_add_lt : (n a : ℕ) {b : ℕ} → b < 256 → shift_add n a b < 256
unfolding shift_add
shift_add_lt zero a h = lit< tt
shift_add_lt (suc n) a {b} h = ⊕-lt (bit_times_lt a h) (shift_add_lt n (a / 2) (mulz_lt h))

shift_add_⊕ : (n a b c : ℕ) → shift_add n a (b ⊕ c) ≡ shift_add n a b ⊕ shift_add n a c
unfolding shift_add
shift_add_⊕ zero a b c = sym (zero_⊕ 0)
shift_add_⊕ (suc n) a b c =
    ap₂ ◌⊕◌ (bit_⊕ (a % 2) b c (bit_lt a)) (ap (shift_add n (a / 2)) (mulz_⊕ b c) ∙ shift_add_⊕ n (a / 2) (mulz b) (mulz c))
    ∙ ⊕-swap (a % 2 * b) (a % 2 * c) (shift_add n (a / 2) (mulz b)) (shift_add n (a / 2) (mulz c))

⊕-shiftAdd : (n a b c : ℕ) → shift_add n (a ⊕ b) c ≡ shift_add n a c ⊕ shift_add n b c
unfolding shift_add
⊕-shiftAdd zero a b c = sym (zero_⊕ 0)
⊕-shiftAdd (suc n) a b c =
    ap₂ ◌⊕◌ (⊕-bit a b c) (ap (λ (x : ℕ). shift_add n x (mulz c)) (⊕-half a b) ∙ ⊕-shiftAdd n (a / 2) (b / 2) (mulz c))
    ∙ ⊕-swap (a % 2 * c) (b % 2 * c) (shift_add n (a / 2) (mulz c)) (shift_add n (b / 2) (mulz c))

-- a bit times z times a symbol
bit_mulz : (t b : ℕ) → t < 2 → mulz (t * b) ≡ t * mulz b
bit_mulz zero b h = ap mulz (zero-mul b) ∙ mulz_zero ∙ sym (zero-mul (mulz b))
bit_mulz (suc zero) b h = ap mulz (one-mul b) ∙ sym (one-mul (mulz b))
bit_mulz (suc (suc t)) b h = absurd (omega arith)

shift_add_mulz : (n a b : ℕ) → shift_add n a (mulz b) ≡ mulz (shift_add n a b)
unfolding shift_add
shift_add_mulz zero a b = sym mulz_zero
shift_add_mulz (suc n) a b =
    ap₂ ◌⊕◌ (sym (bit_mulz (a % 2) b (bit_lt a))) (shift_add_mulz n (a / 2) (mulz b))
    ∙ sym (mulz_⊕ (a % 2 * b) (shift_add n (a / 2) (mulz b)))

shift_add_zero : (n a : ℕ) → shift_add n a 0 ≡ 0
unfolding shift_add
shift_add_zero zero a = refl
shift_add_zero (suc n) a = ap₂ ◌⊕◌ (mul-zero (a % 2)) (ap (shift_add n (a / 2)) mulz_zero ∙ shift_add_zero n (a / 2)) ∙ zero_⊕ 0

-- a bit times a sum of shifts
bit_shift_add : (t n a b : ℕ) → t < 2 → shift_add n a (t * b) ≡ t * shift_add n a b
bit_shift_add zero n a b h = ap (shift_add n a) (zero-mul b) ∙ shift_add_zero n a ∙ sym (zero-mul (shift_add n a b))
bit_shift_add (suc zero) n a b h = ap (shift_add n a) (one-mul b) ∙ sym (one-mul (shift_add n a b))
bit_shift_add (suc (suc t)) n a b h = absurd (omega arith)

-- two factors change places
shift_add_exchange : (n m a b c : ℕ) → shift_add n a (shift_add m b c) ≡ shift_add m b (shift_add n a c)
unfolding shift_add
shift_add_exchange zero m a b c = sym (shift_add_zero m b)
shift_add_exchange (suc n) m a b c =
    ap₂ ◌⊕◌ (sym (bit_shift_add (a % 2) m b c (bit_lt a)))
    (ap (shift_add n (a / 2)) (sym (shift_add_mulz m b c)) ∙ shift_add_exchange n m (a / 2) b (mulz c))
    ∙ sym (shift_add_⊕ m b (a % 2 * c) (shift_add n (a / 2) (mulz c)))

-- n shifts look at n bits only
low_bits : (n a b : ℕ) → shift_add n (a % 2 ^ n) b ≡ shift_add n a b
unfolding shift_add
low_bits zero a b = refl
low_bits (suc n) a b =
    ap₂ (λ (x y : ℕ). x * b ⊕ shift_add n y (mulz b)) odd half ∙ ap (λ (x : ℕ). a % 2 * b ⊕ x) (low_bits n (a / 2) (mulz b))
  where
    odd : a % 2 ^ suc n % 2 ≡ a % 2
    odd = ap (λ (k : ℕ). a % 2 ^ k % 2) (sym (add-one n)) ∙ mod-mod-pow a n 1

    half : a % 2 ^ suc n / 2 ≡ a / 2 % 2 ^ n
    half = ap (λ (k : ℕ). a % 2 ^ k / 2) (sym (add-one n)) ∙ field a n 1

unit : ℕ → Bool
unit a = eqb (shift_add 8 a 1) a

unit_holds : (a : ℕ) → a < 256 → shift_add 8 a 1 ≡ a
unfolding unit shift_add mulz ◌⊕◌
unit_holds a h = eqb→eq (shift_add 8 a 1) a (all_below_lem unit 256 tt a h)

shift_add_one : (a : ℕ) → shift_add 8 a 1 ≡ a % 256
shift_add_one a = sym (low_bits 8 a 1) ∙ unit_holds (a % 256) (mod-lt a (zero-lt-suc 255))

-- ---- the product

pub ⊗-lt : (a b : ℕ) → a ⊗ b < 256
unfolding ◌⊗◌
⊗-lt a b = shift_add_lt 8 a (mod-lt b (zero-lt-suc 255))

pub ⊗-⊕ : (a b c : ℕ) → a ⊗ (b ⊕ c) ≡ a ⊗ b ⊕ a ⊗ c
unfolding ◌⊗◌
⊗-⊕ a b c = ap (shift_add 8 a) (⊕-mod b c 8) ∙ shift_add_⊕ 8 a (b % 256) (c % 256)

pub ⊕-⊗ : (a b c : ℕ) → (a ⊕ b) ⊗ c ≡ a ⊗ c ⊕ b ⊗ c
unfolding ◌⊗◌
⊕-⊗ a b c = ⊕-shiftAdd 8 a b (c % 256)

pub ⊗-zero : (a : ℕ) → a ⊗ 0 ≡ 0
unfolding ◌⊗◌
⊗-zero = shift_add_zero 8

pub ⊗-comm : (a b : ℕ) → a ⊗ b ≡ b ⊗ a
unfolding ◌⊗◌
⊗-comm a b = ap (shift_add 8 a) (sym (shift_add_one b)) ∙ shift_add_exchange 8 8 a b 1 ∙ ap (shift_add 8 b) (shift_add_one a)

-- a product is a symbol already
product_mod : (a b : ℕ) → (a ⊗ b) % 256 ≡ a ⊗ b
product_mod a b = mod-eq_of_lt (⊗-lt a b)

pub ⊗-left-comm : (a b c : ℕ) → a ⊗ (b ⊗ c) ≡ b ⊗ (a ⊗ c)
⊗-left-comm a b c = outer a b c ∙ raw ∙ sym (outer b a c)
  where
    outer : (x y z : ℕ) → x ⊗ (y ⊗ z) ≡ shift_add 8 x (shift_add 8 y (z % 256))
    outer x y z = unfold ◌⊗◌ in ap (shift_add 8 x) (product_mod y z)

    raw : shift_add 8 a (shift_add 8 b (c % 256)) ≡ shift_add 8 b (shift_add 8 a (c % 256))
    raw = shift_add_exchange 8 8 a b (c % 256)

pub ⊗-assoc : (a b c : ℕ) → a ⊗ b ⊗ c ≡ a ⊗ (b ⊗ c)
⊗-assoc a b c = ⊗-comm (a ⊗ b) c ∙ ⊗-left-comm c a b ∙ ap (λ (x : ℕ). a ⊗ x) (⊗-comm c b)

pub ⊗-one : {a : ℕ} → a < 256 → a ⊗ 1 ≡ a
unfolding ◌⊗◌
⊗-one {a} h = unit_holds a h

pub one_⊗ : {b : ℕ} → b < 256 → 1 ⊗ b ≡ b
one_⊗ {b} h = ⊗-comm 1 b ∙ ⊗-one h

pub ⊗-mulz : (a : ℕ) {b : ℕ} → b < 256 → a ⊗ mulz b ≡ mulz (a ⊗ b)
unfolding ◌⊗◌
⊗-mulz a {b} h = ap (shift_add 8 a) (mod-eq_of_lt (mulz_lt h)) ∙ shift_add_mulz 8 a b ∙ ap (λ (x : ℕ). mulz (shift_add 8 a x)) (sym (mod-eq_of_lt h))

-- the product with the root is one step of shift and add
pub root_⊗ : {b : ℕ} → b < 256 → 2 ⊗ b ≡ mulz b
root_⊗ {b} h = ⊗-comm 2 b ∙ ap (λ (x : ℕ). b ⊗ x) z ∙ ⊗-mulz b (lit< tt) ∙ ap mulz (⊗-one h)
  where
    z : ◌≡◌ {A = ℕ} 2 (mulz 1)
    z = unfold mulz ◌⊕◌ in refl
