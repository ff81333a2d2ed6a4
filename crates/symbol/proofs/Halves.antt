-- A symbol's bits from the highest down: each time a half, doubled, and the next bit.
-- Assumes nothing.
use Rattle.std.proofs.Common.{◌≡◌, ℕ, zero, suc, ◌-◌, ◌*◌, ◌/◌, ◌%◌, ◌^◌, ◌<◌, Bool, eqb, sym, ap, ◌∙◌, mod-lt, zero-lt-suc, one-mul, pow-suc, zero-mul, div-le_self, arith, eqb→eq}
use native.Mathlib.Nat.{div-div-eq-div-mul}
use Rattle.lists.proofs.Computed.{all_below_lem}
use Rattle.symbol.specs.Arithmetic.{◌⊕◌, ◌⊗◌, mulz, shift_add}
use Rattle.symbol.specs.Elem.{elem, ops, z}
use Rattle.symbol.proofs.Laws.{⊗-comm, ⊗-zero, ⊗-one, root_⊗}
use Rattle.symbol.proofs.Elem.{elem_⊕, elem_⊗}

-- a doubled symbol is its product with the root
pub twice_times : (a r : ℕ) → a < 256 → r ≡ mulz a → r ≡ a ⊗ 2
twice_times a r h e = e ∙ sym (root_⊗ h) ∙ ⊗-comm 2 a

-- a masked one its product with the bit
pub masked_times : (a b k r : ℕ) → a < 256 → r ≡ b / 2 ^ k % 2 * a → r ≡ a ⊗ (b / 2 ^ k % 2)
masked_times a b k r h e = e ∙ go (b / 2 ^ k % 2) (mod-lt (b / 2 ^ k) (zero-lt-suc 1))
  where
    go : (t : ℕ) → t < 2 → t * a ≡ a ⊗ t
    go zero l = zero-mul a ∙ sym (⊗-zero a)
    go (suc zero) l = one-mul a ∙ sym (⊗-one h)
    go (suc (suc t)) l = absurd (omega arith)

-- a symbol is its half, doubled, and its lowest bit
halves : ℕ → Bool
halves y = eqb (y / 2 ⊗ 2 ⊕ y % 2) y

pub half : (y : ℕ) → y < 256 → y / 2 ⊗ 2 ⊕ y % 2 ≡ y
unfolding halves ◌⊗◌ ◌⊕◌ mulz shift_add
half y h = eqb→eq _ _ (all_below_lem halves 256 tt y h)

-- so its bits from k - 1 on are those from k on, doubled, and bit k - 1
pub elem_half : (p k : ℕ) → p < 256 → 0 < k → elem (p / 2 ^ (k - 1)) ≡ ops.add (ops.mul (elem (p / 2 ^ k)) z) (elem (p / 2 ^ (k - 1) % 2))
elem_half p k h g =
    ap elem (sym (half (p / 2 ^ (k - 1)) (let e = div-le_self p (2 ^ (k - 1)) in omega arith)))
    ∙ elem_⊕ (p / 2 ^ (k - 1) / 2 ⊗ 2) (p / 2 ^ (k - 1) % 2)
    ∙ ap (λ x. ops.add x (elem (p / 2 ^ (k - 1) % 2))) (elem_⊗ (p / 2 ^ (k - 1) / 2) 2 ∙ ap (λ n. ops.mul (elem n) z) (sym lower))
  where
    lower : p / 2 ^ k ≡ p / 2 ^ (k - 1) / 2
    lower = (let e : k ≡ suc (k - 1) = omega arith in ap (λ n. p / 2 ^ n) e) ∙ ap (λ n. p / n) (pow-suc 2 (k - 1)) ∙ sym (div-div-eq-div-mul p (2 ^ (k - 1)) 2)
