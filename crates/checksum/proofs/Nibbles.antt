-- A byte as two numbers of four bits, each by its own row of the table.
-- Assumes nothing.
use mathlib.Core.Path.{◌≡◌, sym, ap, ap₂, ◌∙◌}
use mathlib.Core.List.{List}
use Prim.Native.Nat.{ℕ, ◌+◌, ◌*◌, ◌/◌, ◌%◌, ◌<◌}
use native.Mathlib.Nat.{div-add-mod', mod-lt, zero-lt-suc}
use native.Mathlib.Omega.{arith}
use lib.Bits.{bit_xor, xor_shifted, xor_lt}
use lib.ListN.{get_or}
use Rattle.symbol.specs.Arithmetic.{◌⊕◌}
use Rattle.checksum.specs.Checksum.{steps}
use Rattle.checksum.specs.Inner.{Table}
use Rattle.checksum.proofs.Steps.{steps_⊕, steps_add, four_even}

nibble_split : (n x : ℕ) → steps (n + 8) x ≡ steps (n + 4) (x / 16) ⊕ steps (n + 8) (x % 16)
nibble_split n x =
    ap (steps (n + 8)) (sym split) ∙ steps_⊕ (n + 8) (x / 16 * 16) (x % 16)
    ∙ ap (λ y. y ⊕ steps (n + 8) (x % 16)) higher
  where
    later : n + 8 ≡ 4 + (n + 4)
    later = omega arith

    higher : steps (n + 8) (x / 16 * 16) ≡ steps (n + 4) (x / 16)
    higher = ap (λ m. steps m (x / 16 * 16)) later ∙ steps_add 4 (n + 4) (x / 16 * 16) ∙ ap (steps (n + 4)) (four_even (x / 16))

    split : x / 16 * 16 ⊕ x % 16 ≡ x
    split = unfold ◌⊕◌ in xor_shifted (x / 16) 4 (x % 16) (mod-lt x (zero-lt-suc 15)) ∙ div-add-mod' x 16

pub low_lt : (r b : ℕ) → b < 256 → bit_xor (r % 256) b < 256
low_lt r b l = xor_lt 8 (r % 256) b (mod-lt r (zero-lt-suc 255)) l

pub entry_is : (t : List ℕ) (k r b : ℕ) → Table t k → b < 256
    → bit_xor (get_or t (k * 32 + bit_xor (r % 256) b / 16) 0) (get_or t (k * 32 + 16 + bit_xor (r % 256) b % 16) 0)
    ≡ steps (8 * k + 8) (r % 256 ⊕ b)
unfolding ◌⊕◌
entry_is t k r b h l =
    ap₂ bit_xor
    (h.high (bit_xor (r % 256) b / 16) (let g = low_lt r b l in omega arith))
    (h.low (bit_xor (r % 256) b % 16) (mod-lt (bit_xor (r % 256) b) (zero-lt-suc 15)))
    ∙ sym (nibble_split (8 * k) (bit_xor (r % 256) b))
