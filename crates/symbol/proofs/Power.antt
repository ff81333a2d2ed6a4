-- Powers of symbols, over every exponent.
-- Assumes nothing.
use Rattle.std.proofs.Common.{◌≡◌, ℕ, zero, suc, ◌+◌, ◌*◌, ◌/◌, ◌%◌, ◌<◌, sym, refl, ap, ◌∙◌, add_comm, suc-add, mul-zero, zero-add, mul-suc, arith, lit<}
use Rattle.symbol.specs.Arithmetic.{◌⊗◌, power, zpow}
use Rattle.symbol.proofs.Laws.{⊗-lt, ⊗-one, one_⊗, ⊗-assoc}

pub power_zero : (x : ℕ) → power x 0 ≡ 1
unfolding power
power_zero x = refl

pub power_suc : (x e : ℕ) → power x (suc e) ≡ x ⊗ power x e
unfolding power
power_suc x e = refl

pub power_lt : (x e : ℕ) → power x e < 256
power_lt x zero = rw power_zero (lit< tt)
power_lt x (suc e) = rw power_suc (⊗-lt x (power x e))

pub power_one : {x : ℕ} → x < 256 → power x 1 ≡ x
power_one {x} h = power_suc x 0 ∙ ap (λ (y : ℕ). x ⊗ y) (power_zero x) ∙ ⊗-one h

pub power_add : (x d e : ℕ) → power x (d + e) ≡ power x d ⊗ power x e
power_add x zero e = ap (power x) (zero-add e) ∙ sym (ap (λ (y : ℕ). y ⊗ power x e) (power_zero x) ∙ one_⊗ (power_lt x e))
power_add x (suc d) e =
    ap (power x) (suc-add d e) ∙ power_suc x (d + e) ∙ ap (λ (y : ℕ). x ⊗ y) (power_add x d e)
    ∙ sym (⊗-assoc x (power x d) (power x e)) ∙ ap (λ (y : ℕ). y ⊗ power x e) (sym (power_suc x d))

pub power_mul : (x d e : ℕ) → power x (d * e) ≡ power (power x d) e
power_mul x d zero = ap (power x) (mul-zero d) ∙ power_zero x ∙ sym (power_zero (power x d))
power_mul x d (suc e) =
    ap (power x) (mul-suc d e ∙ add_comm (d * e) d) ∙ power_add x d (d * e) ∙ ap (λ (y : ℕ). power x d ⊗ y) (power_mul x d e)
    ∙ sym (power_suc (power x d) e)

-- the exponent halved: the power of the square
pub power_square : {x : ℕ} → x < 256 → (e : ℕ) → power (x ⊗ x) e ≡ power x (2 * e)
power_square {x} h e = ap (λ (y : ℕ). power y e) (sym square) ∙ sym (power_mul x 2 e)
  where
    square : power x 2 ≡ x ⊗ x
    square = power_suc x 1 ∙ ap (λ (y : ℕ). x ⊗ y) (power_one h)

-- one step of the code: q is the square, h the power of q by half the exponent
pub halved : {x h q : ℕ} → x < 256 → (e : ℕ) → (e % 2 ≡ 1 → ⊥) → q ≡ x ⊗ x → h ≡ power q (e / 2) → h ≡ power x e
halved {x} l e r eq eh = eh ∙ ap (λ (y : ℕ). power y (e / 2)) eq ∙ power_square l (e / 2) ∙ ap (power x) whole
  where
    whole : 2 * (e / 2) ≡ e
    whole = omega arith

pub halved_odd : {x h q r : ℕ} → x < 256 → (e : ℕ) → e % 2 ≡ 1 → q ≡ x ⊗ x → h ≡ power q (e / 2) → r ≡ x ⊗ h → r ≡ power x e
halved_odd {x} l e o eq eh er =
    er ∙ ap (λ (y : ℕ). x ⊗ y) (eh ∙ ap (λ (y : ℕ). power y (e / 2)) eq ∙ power_square l (e / 2))
    ∙ sym (power_suc x (2 * (e / 2))) ∙ ap (power x) whole
  where
    whole : suc (2 * (e / 2)) ≡ e
    whole = omega arith

-- ---- the root

pub zpow_zero : zpow 0 ≡ 1
unfolding zpow
zpow_zero = power_zero 2

pub zpow_suc : (i : ℕ) → zpow (suc i) ≡ 2 ⊗ zpow i
unfolding zpow
zpow_suc = power_suc 2

pub zpow_lt : (i : ℕ) → zpow i < 256
unfolding zpow
zpow_lt = power_lt 2

pub zpow_add : (i j : ℕ) → zpow (i + j) ≡ zpow i ⊗ zpow j
unfolding zpow
zpow_add = power_add 2

pub power_zpow : (i e : ℕ) → power (zpow i) e ≡ zpow (i * e)
unfolding zpow
power_zpow i e = sym (power_mul 2 i e)
