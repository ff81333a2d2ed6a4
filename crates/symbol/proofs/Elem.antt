-- The symbols are a field, and its root has 255 different powers.
-- Assumes nothing.
use Rattle.std.proofs.Common.{◌≡◌, ℕ, zero, suc, ◌*◌, ◌%◌, ◌<◌, sym, refl, ap, ◌∙◌, ap₂, mod-lt, mod-eq_of_lt, arith, lit<}
use Rattle.algebra.specs.Field.{Laws}
use Rattle.algebra.specs.Coding.{Coded}
use Rattle.algebra.specs.Sum.{pow}
use Rattle.algebra.specs.Shape.{Root, FieldLaws}
use Rattle.algebra.specs.Below.{below}
use Rattle.algebra.proofs.Pow.{pow_zero, pow_suc}
use Rattle.algebra.proofs.Below.{elem_path, small, same?, some, val_mod as b-val-mod, val_elem as b-val-elem, coded as b-coded}
use Rattle.symbol.specs.Arithmetic.{◌⊕◌, ◌⊗◌, mulz, shift_add, power, zpow, root, order}
use Rattle.symbol.specs.Elem.{Elem, elem, squares, ops, z, coding, gf256}
use Rattle.symbol.proofs.Xor.{⊕-comm, ⊕-assoc, zero_⊕, ⊕-self, ⊕-lt, ⊕-mod}
use Rattle.symbol.proofs.Laws.{⊗-comm, ⊗-assoc, ⊗-⊕, ⊗-lt, one_⊗}
use Rattle.symbol.proofs.Power.{power_zero, power_suc, power_lt, power_square, power_zpow}
use Rattle.symbol.proofs.Tables.{zpow_log, zpow_turns, zpow_inj, zpow_order, log}

pub val_mod : (n : ℕ) → (elem n).val ≡ n % 256
val_mod = b-val-mod (lit< tt)

pub val_elem : (n : ℕ) → n < 256 → (elem n).val ≡ n
val_elem = b-val-elem (lit< tt)

-- ---- the operations, by values
pub val_add : (x y : Elem) → (ops.add x y).val ≡ x.val ⊕ y.val
unfolding ops
val_add x y = val_elem (x.val ⊕ y.val) (⊕-lt (small x) (small y))

pub val_mul : (x y : Elem) → (ops.mul x y).val ≡ x.val ⊗ y.val
unfolding ops
val_mul x y = val_elem (x.val ⊗ y.val) (⊗-lt x.val y.val)

pub val_zero : ops.zero.val ≡ 0
unfolding ops below
val_zero = refl

pub val_one : ops.one.val ≡ 1
unfolding ops below
val_one = refl

pub neg_is : (x : Elem) → ops.neg x ≡ x
unfolding ops
neg_is x = refl

-- ---- the operations, by numbers
pub elem_zero : elem 0 ≡ ops.zero
unfolding ops
elem_zero = refl

pub elem_one : elem 1 ≡ ops.one
unfolding ops
elem_one = refl

pub elem_⊕ : (a b : ℕ) → elem (a ⊕ b) ≡ ops.add (elem a) (elem b)
elem_⊕ a b = elem_path _ _ (val_mod (a ⊕ b) ∙ ⊕-mod a b 8 ∙ sym (val_add (elem a) (elem b) ∙ ap₂ ◌⊕◌ (val_mod a) (val_mod b)))

⊗-low : (a b : ℕ) → a ⊗ (b % 256) ≡ a ⊗ b
unfolding ◌⊗◌
⊗-low a b = ap (shift_add 8 a) (mod-eq_of_lt (mod-lt b (lit< tt)))

pub elem_⊗ : (a b : ℕ) → elem (a ⊗ b) ≡ ops.mul (elem a) (elem b)
elem_⊗ a b =
    elem_path _ _ (val_elem (a ⊗ b) (⊗-lt a b) ∙ sym (val_mul (elem a) (elem b) ∙ ap₂ ◌⊗◌ (val_mod a) (val_mod b)
    ∙ ⊗-low (a % 256) b ∙ ⊗-comm (a % 256) b ∙ ⊗-low b a ∙ ⊗-comm b a))

pub elem_power : (x n : ℕ) → elem (power x n) ≡ pow ops (elem x) n
elem_power x zero = ap elem (power_zero x) ∙ elem_one ∙ sym (pow_zero ops (elem x))
elem_power x (suc n) = ap elem (power_suc x n) ∙ elem_⊗ x (power x n) ∙ ap (ops.mul (elem x)) (elem_power x n) ∙ sym (pow_suc ops (elem x) n)

pub elem_zpow : (n : ℕ) → elem (zpow n) ≡ pow ops z n
unfolding zpow
elem_zpow n = elem_power root n

-- ---- the inverse
twos : ℕ → ℕ
twos zero = 0
twos (suc n) = suc (suc (2 * twos n))

squares_power : (n x : ℕ) → x < 256 → squares n x ≡ power x (twos n)
unfolding squares twos
squares_power zero x h = sym (power_zero x)
squares_power (suc n) x h =
    ap (λ (y : ℕ). x ⊗ x ⊗ y) (squares_power n (x ⊗ x) (⊗-lt x x) ∙ power_square h (twos n))
    ∙ ⊗-assoc x x (power x (2 * twos n))
    ∙ ap (λ (y : ℕ). x ⊗ y) (sym (power_suc x (2 * twos n)))
    ∙ sym (power_suc x (suc (2 * twos n)))

twos_7 : twos 7 ≡ 254
unfolding twos
twos_7 = refl

pub squares_inverse : (x : ℕ) → 0 < x → x < 256 → squares 7 x ⊗ x ≡ 1
squares_inverse x p h =
    ⊗-comm (squares 7 x) x ∙ ap (λ (y : ℕ). x ⊗ y) (squares_power 7 x h ∙ ap (power x) twos_7)
    ∙ sym (power_suc x 254) ∙ ap (λ (y : ℕ). power y 255) (sym (zpow_log p h)) ∙ power_zpow (log x) 255 ∙ zpow_turns (log x)

squares_lt : (n x : ℕ) → squares n x < 256
unfolding squares
squares_lt zero x = lit< tt
squares_lt (suc n) x = ⊗-lt (x ⊗ x) (squares n (x ⊗ x))

pub val_inv : (x : Elem) → (ops.inv x).val ≡ squares 7 x.val
unfolding ops
val_inv x = val_elem (squares 7 x.val) (squares_lt 7 x.val)

-- ---- the laws
zero_one : ¬ (◌≡◌ {A = ℕ} 1 0)
zero_one e = omega arith

pub laws : Laws ops
laws = record {
  add_assoc = λ a b c. elem_path _ _ (val_add (ops.add a b) c ∙ ap (λ (x : ℕ). x ⊕ c.val) (val_add a b) ∙ ⊕-assoc a.val b.val c.val
      ∙ sym (val_add a (ops.add b c) ∙ ap (λ (x : ℕ). a.val ⊕ x) (val_add b c)));
  add_comm = λ a b. elem_path _ _ (val_add a b ∙ ⊕-comm a.val b.val ∙ sym (val_add b a));
  zero_add = λ a. elem_path _ _ (val_add ops.zero a ∙ ap (λ (x : ℕ). x ⊕ a.val) val_zero ∙ zero_⊕ a.val);
  neg_add = λ a. elem_path _ _ (val_add (ops.neg a) a ∙ ap (λ x. x.val ⊕ a.val) (neg_is a) ∙ ⊕-self a.val ∙ sym val_zero);
  mul_assoc = λ a b c. elem_path _ _ (val_mul (ops.mul a b) c ∙ ap (λ (x : ℕ). x ⊗ c.val) (val_mul a b) ∙ ⊗-assoc a.val b.val c.val
      ∙ sym (val_mul a (ops.mul b c) ∙ ap (λ (x : ℕ). a.val ⊗ x) (val_mul b c)));
  mul_comm = λ a b. elem_path _ _ (val_mul a b ∙ ⊗-comm a.val b.val ∙ sym (val_mul b a));
  one_mul = λ a. elem_path _ _ (val_mul ops.one a ∙ ap (λ (x : ℕ). x ⊗ a.val) val_one ∙ one_⊗ (small a));
  mul_add = λ a b c. elem_path _ _ (
      val_mul a (ops.add b c) ∙ ap (λ (x : ℕ). a.val ⊗ x) (val_add b c) ∙ ⊗-⊕ a.val b.val c.val
      ∙ sym (val_add (ops.mul a b) (ops.mul a c) ∙ ap₂ ◌⊕◌ (val_mul a b) (val_mul a c)));
  inv_mul = λ a n. elem_path _ _ (val_mul (ops.inv a) a ∙ ap (λ (x : ℕ). x ⊗ a.val) (val_inv a) ∙ squares_inverse a.val (some (lit< tt) a (λ e. n (e ∙ elem_zero))) (small a) ∙ sym val_one);
  one_not_zero = λ e. zero_one (sym val_one ∙ ap (λ x. x.val) e ∙ val_zero);
  decide = same?;
}

pub coded : Coded coding
coded = b-coded (lit< tt)

val_pow : (n : ℕ) → (pow ops z n).val ≡ zpow n
unfolding zpow
val_pow n = ap (λ x. x.val) (sym (elem_zpow n)) ∙ val_elem (power root n) (power_lt root n)

pub root_order : Root ops z order
root_order = record {
  full = elem_path _ _ (val_pow 255 ∙ zpow_order ∙ sym val_one);
  apart = λ a b h k e. zpow_inj h k (sym (val_pow a) ∙ ap (λ x. x.val) e ∙ val_pow b);
}

-- what every theorem over a field asks of it
pub gf256_laws : FieldLaws gf256
gf256_laws = record { laws = laws; root = root_order; coded = coded }

-- the inverse of zero
pub inverse_zero : (n : ℕ) → n ≡ 0 → elem n ≡ ops.inv (elem n)
unfolding ops below squares
inverse_zero n e = elem_path _ _ (ap (λ (y : ℕ). y % 256) e ∙ sym (ap (λ (y : ℕ). squares 7 (y % 256) % 256) e ∙ nil))
  where
    nil : squares 7 0 % 256 ≡ 0
    nil = unfold ◌⊗◌ shift_add mulz ◌⊕◌ in refl
