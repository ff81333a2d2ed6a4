-- Powers of the root as doublings, and as bits.
-- Assumes nothing.
use mathlib.Core.Path.{◌≡◌, sym, ap, ◌∙◌, subst}
use mathlib.Core.Bool.{Bool}
use mathlib.Core.List.{List}
use Prim.Native.Nat.{ℕ, ◌+◌, ◌-◌, ◌*◌, ◌%◌, ◌^◌, ◌<◌, ◌≤◌}
use native.Mathlib.Omega.{arith}
use lib.Dec.{eqb, eqb→eq}
use Rattle.lists.proofs.Computed.{all_below_lem}
use Rattle.algebra.specs.Sum.{pow}
use Rattle.algebra.specs.Plain.{root_power}
use Rattle.algebra.proofs.Ring.{mul_comm, mul_assoc}
use Rattle.algebra.proofs.Plain.{val_below}
use Rattle.algebra.proofs.Pow.{pow_add_one}
use Rattle.symbol.specs.Arithmetic.{◌⊕◌, ◌⊗◌, mulz, shift_add, power, zpow}
use Rattle.symbol.specs.Elem.{elem, ops, z, gf256}
use Rattle.symbol.proofs.Laws.{⊗-lt}
use Rattle.symbol.proofs.Elem.{laws, val_elem, elem_⊗}
use Rattle.symbol.proofs.Working.{working, zpow_is}
use Rattle.symbol.proofs.Halves.{twice_times}
use Rattle.kernel.specs.Inner.{Run}
use Rattle.horner.specs.Inner.{scaled, stepped_run, Left}
use Rattle.horner.proofs.Loops.{elem_scaled, steps_next}

pub double_more : (x k v n : ℕ) → v ≡ scaled gf256 k x → n ≡ mulz v → n ≡ scaled gf256 (k + 1) x
unfolding scaled
double_more x k v n e q =
    q' ∙ sym (val_elem (v ⊗ 2) (⊗-lt v 2))
    ∙ ap (λ y. y.val) (elem_⊗ v 2 ∙ mul_comm ops laws (elem v) z ∙ ap (ops.mul z) (ap elem e ∙ elem_scaled working k x)
    ∙ sym (mul_assoc ops laws z (pow ops z k) (elem x)) ∙ ap (λ y. ops.mul y (elem x)) (sym (pow_add_one ops z k)))
  where
    q' : n ≡ v ⊗ 2
    q' = twice_times v n (subst (λ y. y < 256) (sym e) (val_below working (ops.mul (pow ops z k) (elem x)))) q

-- the first eight powers are the bits of a byte
bits : ℕ → Bool
bits e = eqb (1 * 2 ^ e % 256) (zpow e)

pub bit_power : (e : ℕ) → e < 8 → 1 * 2 ^ e % 256 ≡ root_power gf256 e
unfolding bits zpow power ◌⊗◌ ◌⊕◌ mulz shift_add
bit_power e h = eqb→eq _ _ (all_below_lem bits 8 tt e h) ∙ zpow_is e

pub steps_more : (n a t : ℕ) (cur row was is next : List ℕ) (to len : ℕ) → 0 < a → a ≤ n → n ≤ 8 → Left gf256 n a t cur row was is to len →
    Run (stepped_run gf256 is to cur row (1 * 2 ^ (a - 1) % 256) t) is next to len → Left gf256 n (a - 1) t cur row was next to len
steps_more n a t cur row was is next to len h g b s r = steps_next working n a t _ cur row was is next to len h (bit_power (a - 1) (omega arith)) s r
