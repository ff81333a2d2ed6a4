-- Steps add up and are linear; four of them halve a number with four zeros below four times, eight one with eight zeros.
-- Assumes nothing.
use mathlib.Core.Path.{◌≡◌, refl, ap, ap₂, ◌∙◌}
use Prim.Native.Nat.{ℕ, zero, suc, ◌+◌, ◌*◌, ◌/◌, ◌%◌}
use native.Mathlib.Nat.{zero-mul, zero-add, suc-add}
use native.Mathlib.Omega.{arith}
use Rattle.symbol.specs.Arithmetic.{◌⊕◌}
use Rattle.symbol.proofs.Xor.{⊕-zero, ⊕-half, ⊕-bit, ⊕-swap}
use Rattle.checksum.specs.Checksum.{reversed, step, steps}

step_⊕ : (a b : ℕ) → step (a ⊕ b) ≡ step a ⊕ step b
unfolding step
step_⊕ a b = ap₂ ◌⊕◌ (⊕-half a b) (⊕-bit a b reversed) ∙ ⊕-swap (a / 2) (b / 2) (a % 2 * reversed) (b % 2 * reversed)

pub steps_⊕ : (n a b : ℕ) → steps n (a ⊕ b) ≡ steps n a ⊕ steps n b
unfolding steps
steps_⊕ zero a b = refl
steps_⊕ (suc n) a b = ap (steps n) (step_⊕ a b) ∙ steps_⊕ n (step a) (step b)

pub steps_add : (n m r : ℕ) → steps (n + m) r ≡ steps m (steps n r)
unfolding steps
steps_add zero m r = ap (λ k. steps k r) (zero-add m)
steps_add (suc n) m r = ap (λ k. steps k r) (suc-add n m) ∙ steps_add n m (step r)

-- an even number is halved
step_even : (q : ℕ) → step (q * 2) ≡ q
unfolding step
step_even q =
    ap₂ (λ x y. x ⊕ y * reversed) half odd ∙ ap (λ x. q ⊕ x) (zero-mul reversed) ∙ ⊕-zero q
  where
    half : q * 2 / 2 ≡ q
    half = omega arith

    odd : q * 2 % 2 ≡ 0
    odd = omega arith

down : {x y : ℕ} → x ≡ y * 2 → step x ≡ y
down {x} {y} e = ap step e ∙ step_even y

-- four steps move the digits above the lowest down by one
pub four_even : (q : ℕ) → steps 4 (q * 16) ≡ q
unfolding steps
four_even q =
    ap (λ x. step (step (step x))) (down {x = q * 16} {y = q * 8} (omega arith))
    ∙ ap (λ x. step (step x)) (down {x = q * 8} {y = q * 4} (omega arith))
    ∙ ap step (down {x = q * 4} {y = q * 2} (omega arith)) ∙ step_even q

-- eight steps move the bytes above the lowest down by one
pub eight_even : (q : ℕ) → steps 8 (q * 256) ≡ q
eight_even q = steps_add 4 4 (q * 256) ∙ ap (steps 4) (ap (steps 4) grouped ∙ four_even (q * 16)) ∙ four_even q
  where
    grouped : q * 256 ≡ q * 16 * 16
    grouped = omega arith
