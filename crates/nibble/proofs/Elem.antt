-- The symbols are a field.
-- Assumes nothing.
use mathlib.Core.Path.{◌≡◌, refl, sym, ◌∙◌, ap, ap₂}
use Prim.Native.Nat.{ℕ, zero, suc, ◌%◌, ◌<◌}
use native.Mathlib.Nat.{mod-lt, mod-eq_of_lt}
use native.Mathlib.Omega.{arith}
use lib.Dec.{lit<}
use Rattle.algebra.specs.Field.{Laws}
use Rattle.algebra.specs.Coding.{Coded}
use Rattle.algebra.specs.Sum.{pow}
use Rattle.algebra.proofs.Pow.{pow_zero, pow_suc}
use Rattle.symbol.specs.Arithmetic.{◌⊕◌}
use Rattle.symbol.proofs.Xor.{⊕-comm, ⊕-assoc, zero_⊕, ⊕-self, ⊕-mod}
use Rattle.nibble.specs.Arithmetic.{◌⊗◌, shift_add, power}
use Rattle.algebra.specs.Below.{below}
use Rattle.algebra.proofs.Below.{elem_path, small, same?, some, val_mod as b-val-mod, val_elem as b-val-elem, elem_val as b-elem-val, coded as b-coded}
use Rattle.nibble.specs.Elem.{Elem, elem, ops, coding}
use Rattle.nibble.proofs.Laws.{⊗-lt, ⊗-comm, ⊗-assoc, ⊗-⊕, one_⊗, inverse_⊗, ⊕-lt, power_lt}

pub val_mod : (n : ℕ) → (elem n).val ≡ n % 16
val_mod = b-val-mod (lit< tt)

pub val_elem : (n : ℕ) → n < 16 → (elem n).val ≡ n
val_elem = b-val-elem (lit< tt)

pub elem_val : (a : Elem) → elem a.val ≡ a
elem_val = b-elem-val (lit< tt)

-- ---- the operations, by values
pub val_add : (a b : Elem) → (ops.add a b).val ≡ a.val ⊕ b.val
unfolding ops
val_add a b = val_elem (a.val ⊕ b.val) (⊕-lt (small a) (small b))

pub val_mul : (a b : Elem) → (ops.mul a b).val ≡ a.val ⊗ b.val
unfolding ops
val_mul a b = val_elem (a.val ⊗ b.val) (⊗-lt a.val b.val)

pub val_inv : (a : Elem) → (ops.inv a).val ≡ power a.val 14
unfolding ops
val_inv a = val_elem (power a.val 14) (power_lt a.val 14)

pub val_zero : ops.zero.val ≡ 0
unfolding ops below
val_zero = refl

pub val_one : ops.one.val ≡ 1
unfolding ops below
val_one = refl

pub neg_is : (a : Elem) → ops.neg a ≡ a
unfolding ops
neg_is a = refl

-- ---- the operations, by numbers
pub elem_zero : elem 0 ≡ ops.zero
unfolding ops
elem_zero = refl

pub elem_one : elem 1 ≡ ops.one
unfolding ops
elem_one = refl

pub elem_⊕ : (a b : ℕ) → elem (a ⊕ b) ≡ ops.add (elem a) (elem b)
elem_⊕ a b = elem_path _ _ (val_mod (a ⊕ b) ∙ ⊕-mod a b 4 ∙ sym (val_add (elem a) (elem b) ∙ ap₂ ◌⊕◌ (val_mod a) (val_mod b)))

low_low : (n : ℕ) → n % 16 % 16 ≡ n % 16
low_low n = mod-eq_of_lt (mod-lt n (lit< tt))

⊗-low : (a b : ℕ) → (a % 16) ⊗ (b % 16) ≡ a ⊗ b
unfolding ◌⊗◌
⊗-low a b = ap₂ (shift_add 4) (low_low a) (low_low b)

pub elem_⊗ : (a b : ℕ) → elem (a ⊗ b) ≡ ops.mul (elem a) (elem b)
elem_⊗ a b = elem_path _ _ (val_elem (a ⊗ b) (⊗-lt a b) ∙ sym (val_mul (elem a) (elem b) ∙ ap₂ ◌⊗◌ (val_mod a) (val_mod b) ∙ ⊗-low a b))

pub elem_power : (x n : ℕ) → elem (power x n) ≡ pow ops (elem x) n
unfolding power
elem_power x zero = elem_one ∙ sym (pow_zero ops (elem x))
elem_power x (suc n) = elem_⊗ x (power x n) ∙ ap (ops.mul (elem x)) (elem_power x n) ∙ sym (pow_suc ops (elem x) n)

pub val_pow : (x : ℕ) (n : ℕ) → (pow ops (elem x) n).val ≡ power x n
val_pow x n = ap (λ e. e.val) (sym (elem_power x n)) ∙ val_elem (power x n) (power_lt x n)

pub elem_same : {m n : ℕ} → m < 16 → n < 16 → elem m ≡ elem n → m ≡ n
elem_same {m} {n} h l e = sym (val_elem m h) ∙ ap (λ x. x.val) e ∙ val_elem n l

-- ---- the laws
zero_one : ¬ (◌≡◌ {A = ℕ} 1 0)
zero_one e = omega arith

pub laws : Laws ops
laws = record {
  add_assoc = λ a b c. elem_path _ _ (val_add (ops.add a b) c ∙ ap (λ (x : ℕ). x ⊕ c.val) (val_add a b) ∙ ⊕-assoc a.val b.val c.val
      ∙ sym (val_add a (ops.add b c) ∙ ap (λ (x : ℕ). a.val ⊕ x) (val_add b c)));
  add_comm = λ a b. elem_path _ _ (val_add a b ∙ ⊕-comm a.val b.val ∙ sym (val_add b a));
  zero_add = λ a. elem_path _ _ (val_add ops.zero a ∙ ap (λ (x : ℕ). x ⊕ a.val) val_zero ∙ zero_⊕ a.val);
  neg_add = λ a. elem_path _ _ (val_add (ops.neg a) a ∙ ap (λ x. x.val ⊕ a.val) (neg_is a) ∙ ⊕-self a.val ∙ sym val_zero);
  mul_assoc = λ a b c. elem_path _ _ (val_mul (ops.mul a b) c ∙ ap (λ (x : ℕ). x ⊗ c.val) (val_mul a b) ∙ ⊗-assoc (small a) (small b) (small c)
      ∙ sym (val_mul a (ops.mul b c) ∙ ap (λ (x : ℕ). a.val ⊗ x) (val_mul b c)));
  mul_comm = λ a b. elem_path _ _ (val_mul a b ∙ ⊗-comm (small a) (small b) ∙ sym (val_mul b a));
  one_mul = λ a. elem_path _ _ (val_mul ops.one a ∙ ap (λ (x : ℕ). x ⊗ a.val) val_one ∙ one_⊗ (small a));
  mul_add = λ a b c. elem_path _ _ (
      val_mul a (ops.add b c) ∙ ap (λ (x : ℕ). a.val ⊗ x) (val_add b c) ∙ ⊗-⊕ (small a) (small b) (small c)
      ∙ sym (val_add (ops.mul a b) (ops.mul a c) ∙ ap₂ ◌⊕◌ (val_mul a b) (val_mul a c)));
  inv_mul = λ a n. elem_path _ _ (val_mul (ops.inv a) a ∙ ap (λ (x : ℕ). x ⊗ a.val) (val_inv a) ∙ inverse_⊗ a.val (some (lit< tt) a (λ e. n (e ∙ elem_zero))) (small a) ∙ sym val_one);
  one_not_zero = λ e. zero_one (sym val_one ∙ ap (λ x. x.val) e ∙ val_zero);
  decide = same?;
}

pub coded : Coded coding
coded = b-coded (lit< tt)
