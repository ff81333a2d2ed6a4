-- Powers by halving, and powers of which above a limit only that they are above it is known.
-- Assumes nothing.
use mathlib.Core.Path.{◌≡◌, sym, ap, ◌∙◌}
use Prim.Native.Nat.{ℕ, zero, suc, ◌+◌, ◌*◌, ◌/◌, ◌%◌, ◌^◌, ◌<◌, min}
use native.Mathlib.Nat.{mul-zero, mul_comm, one-mul, le-mul_of_pos_right, pow-zero, pow-suc}
use native.Mathlib.Decide.{dec_le}
use native.Mathlib.Omega.{arith}
use lib.Pow.{pow-add}

module _ (c : ℕ) (pos : 0 < c) where
  cap_above : (a b : ℕ) → c < a → min (c * b) c ≡ min (a * b) c
  cap_above a zero h = ap (λ x. min x c) (mul-zero c ∙ sym (mul-zero a))
  cap_above a (suc b) h =
      let p : 0 < suc b = omega arith in
      omega (arith, le-mul_of_pos_right c p, le-mul_of_pos_right a p)

  -- a factor may be cut at the limit before it is multiplied
  pub cap_mul : (a b : ℕ) → min (min a c * b) c ≡ min (a * b) c
  cap_mul a b = elim (dec_le a c) [
    | yes h ↦ ap (λ x. min (x * b) c) (omega arith)
    | no h ↦ ap (λ x. min (x * b) c) (omega arith) ∙ cap_above a b (omega arith)
  ]

  pub cap_square : (a : ℕ) → min (min a c * min a c) c ≡ min (a * a) c
  cap_square a =
      cap_mul a (min a c) ∙ ap (λ x. min x c) (mul_comm a (min a c)) ∙ cap_mul a a

  pub cap_odd : (a b : ℕ) → min (min a c * min a c * b) c ≡ min (a * a * b) c
  cap_odd a b = sym (cap_mul (min a c * min a c) b) ∙ ap (λ x. min (x * b) c) (cap_square a) ∙ cap_mul (a * a) b

module _ (b e : ℕ) where
  pub first_power : e ≡ 1 → b ≡ b ^ e
  first_power h = sym (one-mul b) ∙ ap (λ x. x * b) (sym (pow-zero b)) ∙ sym (pow-suc b 0) ∙ ap (λ x. b ^ x) (sym h)

  pub half_even : e % 2 ≡ 0 → b ^ (e / 2) * b ^ (e / 2) ≡ b ^ e
  half_even h = sym (pow-add b (e / 2) (e / 2)) ∙ ap (λ x. b ^ x) (omega arith)

  pub half_odd : (e % 2 ≡ 0 → ⊥) → b ^ (e / 2) * b ^ (e / 2) * b ≡ b ^ e
  half_odd h =
      ap (λ x. x * b) (sym (pow-add b (e / 2) (e / 2)))
      ∙ sym (pow-suc b (e / 2 + e / 2))
      ∙ ap (λ x. b ^ x) (omega arith)
