-- The product by shifts and masks.
-- Assumes nothing.
use Rattle.std.proofs.Common.{◌≡◌, ℕ, zero, suc, ◌+◌, ◌*◌, ◌/◌, ◌%◌, ◌^◌, ◌<◌, Bool, eqb, sym, ap, ◌∙◌, mod-lt, mod-eq_of_lt, zero-lt-suc, one-mul, zero-mul, div-one, arith, eqb→eq}
use native.Mathlib.Nat.{div-div-eq-div-mul}
use lib.Bits.{bit_xor, bit_and, and_mask, and_zero_r}
use Rattle.symbol.specs.Arithmetic.{◌⊕◌, mulz, shift_add, ◌⊗◌}
use Rattle.lists.proofs.Computed.{all_below_lem}
use Rattle.symbol.proofs.Xor.{⊕-assoc, ⊕-zero}
use Rattle.symbol.proofs.Laws.{⊗-comm}

-- what is left of a byte when a bit is taken off zero, with wrapping: none or all of its bits
pub wrap : (t r : ℕ) → t < 2 → r < 256 → (r + t) % 256 ≡ 0 → r ≡ t * 255
wrap zero r h l e = omega arith
wrap (suc zero) r h l e = omega arith
wrap (suc (suc t)) r h l e = absurd (omega arith)

-- a byte masked by none or all of its bits
pub keep : (t a : ℕ) → t < 2 → a < 256 → bit_and a (t * 255) ≡ t * a
keep zero a h l = ap (bit_and a) (zero-mul 255) ∙ and_zero_r a ∙ sym (zero-mul a)
keep (suc zero) a h l = and_mask a 8 ∙ mod-eq_of_lt l ∙ sym (one-mul a)
keep (suc (suc t)) a h l = absurd (omega arith)

doubles : ℕ → Bool
doubles a = eqb (bit_xor (a * 2 % 256) (bit_and (a / 128 * 255) 29)) (mulz a)

double : (a : ℕ) → a < 256 → bit_xor (a * 2 % 256) (bit_and (a / 128 * 255) 29) ≡ mulz a
unfolding doubles mulz ◌⊕◌
double a h = eqb→eq _ _ (all_below_lem doubles 256 tt a h)

pub twice_is : (a r : ℕ) → a < 256 → r < 256 → (r + a / 128) % 256 ≡ 0 → bit_xor (a * 2 % 256) (bit_and r 29) ≡ mulz a
twice_is a r h l e = ap (λ (x : ℕ). bit_xor (a * 2 % 256) (bit_and x 29)) (wrap (a / 128) r (omega arith) l e) ∙ double a h

pub masked_is : (a b k r : ℕ) → a < 256 → r < 256 → (r + bit_and (b / 2 ^ k) 1) % 256 ≡ 0 → bit_and a r ≡ b / 2 ^ k % 2 * a
masked_is a b k r h l e =
    ap (bit_and a) (wrap (b / 2 ^ k % 2) r (mod-lt (b / 2 ^ k) (zero-lt-suc 1)) l (rw (sym (and_mask (b / 2 ^ k) 1)) e)) ∙ keep (b / 2 ^ k % 2) a (mod-lt (b / 2 ^ k) (zero-lt-suc 1)) h

-- the sum of the masked doubles
pub shift_add_sum : (a b : ℕ) → a < 256 →
    b / 1 % 2 * a ⊕ (b / 2 % 2 * mulz a ⊕ (b / 4 % 2 * mulz (mulz a) ⊕ b / 8 % 2 * mulz (mulz (mulz a)))) ⊕ (b / 16 % 2 * mulz (mulz (mulz (mulz a)))
    ⊕ (b / 32 % 2 * mulz (mulz (mulz (mulz (mulz a)))) ⊕ (b / 64 % 2 * mulz (mulz (mulz (mulz (mulz (mulz a)))))
    ⊕ b / 128 % 2 * mulz (mulz (mulz (mulz (mulz (mulz (mulz a)))))))))
    ≡ a ⊗ b
unfolding ◌⊗◌ shift_add
shift_add_sum a b h = sym (⊗-comm a b ∙ simp (mod-eq_of_lt h, div-div-eq-div-mul, ⊕-zero, ⊕-assoc, div-one))

pub shift_add_is : (a b a1 a2 a3 a4 a5 a6 a7 m0 m1 m2 m3 m4 m5 m6 m7 : ℕ) → a < 256 →
    a1 ≡ mulz a → a2 ≡ mulz a1 → a3 ≡ mulz a2 → a4 ≡ mulz a3 → a5 ≡ mulz a4 → a6 ≡ mulz a5 → a7 ≡ mulz a6 →
    m0 ≡ b / 1 % 2 * a → m1 ≡ b / 2 % 2 * a1 → m2 ≡ b / 4 % 2 * a2 → m3 ≡ b / 8 % 2 * a3 → m4 ≡ b / 16 % 2 * a4 →
    m5 ≡ b / 32 % 2 * a5 → m6 ≡ b / 64 % 2 * a6 → m7 ≡ b / 128 % 2 * a7 →
    bit_xor (bit_xor m0 (bit_xor m1 (bit_xor m2 m3))) (bit_xor m4 (bit_xor m5 (bit_xor m6 m7))) ≡ a ⊗ b
unfolding ◌⊕◌
shift_add_is a b a1 a2 a3 a4 a5 a6 a7 m0 m1 m2 m3 m4 m5 m6 m7 h e1 e2 e3 e4 e5 e6 e7 f0 f1 f2 f3 f4 f5 f6 f7 = rw (f0, f1, f2, f3, f4, f5, f6, f7, e7, e6, e5, e4, e3, e2, e1) (shift_add_sum a b h)
