-- Bytes fed: what one does with the lowest byte of the state, and how the other bytes of the state are moved on.
-- Assumes nothing.
use mathlib.Core.Path.{◌≡◌, refl, sym, ap, ◌∙◌}
use mathlib.Core.List.{List, [], ◌∷◌}
use Prim.Native.Nat.{ℕ, suc, ◌+◌, ◌*◌, ◌/◌, ◌%◌}
use native.Mathlib.Nat.{div-add-mod', mod-lt, zero-lt-suc}
use native.Mathlib.Omega.{arith}
use lib.Bits.{bit_xor, xor_shifted}
use lib.ListN.{length}
use Rattle.symbol.specs.Arithmetic.{◌⊕◌}
use Rattle.symbol.proofs.Xor.{⊕-comm, ⊕-assoc}
use Rattle.checksum.specs.Checksum.{steps, fed}
use Rattle.checksum.proofs.Steps.{steps_⊕, steps_add, eight_even}

-- the lowest byte, and the others
pub eight_split : (r : ℕ) → steps 8 r ≡ steps 8 (r % 256) ⊕ r / 256
eight_split r =
    ap (steps 8) (sym split) ∙ steps_⊕ 8 (r / 256 * 256) (r % 256) ∙ ⊕-comm (steps 8 (r / 256 * 256)) (steps 8 (r % 256))
    ∙ ap (λ x. steps 8 (r % 256) ⊕ x) (eight_even (r / 256))
  where
    split : r / 256 * 256 ⊕ r % 256 ≡ r
    split = unfold ◌⊕◌ in xor_shifted (r / 256) 8 (r % 256) (mod-lt r (zero-lt-suc 255)) ∙ div-add-mod' r 256

pub one_split : (r b : ℕ) → steps 8 (r ⊕ b) ≡ steps 8 (r % 256 ⊕ b) ⊕ r / 256
one_split r b =
    steps_⊕ 8 r b ∙ ap (λ x. x ⊕ steps 8 b) (eight_split r) ∙ ⊕-assoc (steps 8 (r % 256)) (r / 256) (steps 8 b)
    ∙ ap (λ x. steps 8 (r % 256) ⊕ x) (⊕-comm (r / 256) (steps 8 b)) ∙ sym (⊕-assoc (steps 8 (r % 256)) (steps 8 b) (r / 256))
    ∙ ap (λ x. x ⊕ r / 256) (sym (steps_⊕ 8 (r % 256) b))

-- what stands before the bytes is moved on past all of them
pub fed_⊕ : (x y : ℕ) (bs : List ℕ) → fed (x ⊕ y) bs ≡ steps (8 * length bs) x ⊕ fed y bs
unfolding fed steps
fed_⊕ x y [] = refl
fed_⊕ x y (b ∷ bs) =
    ap (λ z. fed z bs) (ap (steps 8) (⊕-assoc x y b) ∙ steps_⊕ 8 x (y ⊕ b))
    ∙ fed_⊕ (steps 8 x) (steps 8 (y ⊕ b)) bs
    ∙ ap (λ z. z ⊕ fed (steps 8 (y ⊕ b)) bs) (sym (steps_add 8 (8 * length bs) x) ∙ ap (λ n. steps n x) longer)
  where
    longer : 8 + 8 * length bs ≡ 8 * suc (length bs)
    longer = omega arith

-- the bytes of r and those of the list by pairs, each by its own table
pub fed_split : (r b : ℕ) (bs : List ℕ) → fed r (b ∷ bs) ≡ steps (8 * length bs + 8) (r % 256 ⊕ b) ⊕ fed (r / 256) bs
unfolding fed
fed_split r b bs =
    ap (λ z. fed z bs) (one_split r b) ∙ fed_⊕ (steps 8 (r % 256 ⊕ b)) (r / 256) bs
    ∙ ap (λ z. z ⊕ fed (r / 256) bs) (sym (steps_add 8 (8 * length bs) (r % 256 ⊕ b)) ∙ ap (λ n. steps n (r % 256 ⊕ b)) order)
  where
    order : 8 + 8 * length bs ≡ 8 * length bs + 8
    order = omega arith

pub one_is : (r b e : ℕ) → e ≡ steps 8 (r % 256 ⊕ b) → bit_xor e (r / 256) ≡ steps 8 (r ⊕ b)
one_is r b e p = ap (λ x. bit_xor x (r / 256)) p ∙ sums
  where
    sums : bit_xor (steps 8 (r % 256 ⊕ b)) (r / 256) ≡ steps 8 (r ⊕ b)
    sums = unfold ◌⊕◌ in sym (one_split r b)
