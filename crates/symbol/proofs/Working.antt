-- The symbols as plain numbers: what the functions of src/plain.rt give, and that the field has what the code needs.
-- Assumes nothing.
use Rattle.std.proofs.Common.{◌≡◌, ℕ, ◌<◌, sym, refl, ap, ◌∙◌, ap₂, lit≤}
use Rattle.algebra.specs.Plain.{reduced, plus, minus, times, raised, root_power, Working}
use Rattle.algebra.proofs.Plain.{elem_plus, elem_times}
use Rattle.symbol.specs.Arithmetic.{◌⊕◌, ◌⊗◌, power, zpow}
use Rattle.symbol.specs.Elem.{elem, ops, gf256}
use Rattle.symbol.proofs.Laws.{⊗-lt}
use Rattle.symbol.proofs.Power.{power_lt, zpow_lt}
use Rattle.symbol.proofs.Tables.{log, log_lt, zpow_log}
use Rattle.symbol.proofs.Elem.{val_elem, val_add, neg_is, elem_zero, elem_one, elem_⊗, elem_power, elem_zpow, inverse_zero, gf256_laws}

pub reduced_is : (a : ℕ) → a < 256 → a ≡ reduced gf256 a
unfolding reduced
reduced_is a h = sym (val_elem a h)

pub plus_is : (a b r : ℕ) → a < 256 → b < 256 → r ≡ a ⊕ b → r ≡ plus gf256 a b
unfolding plus
plus_is a b r h l e = e ∙ sym (val_add (elem a) (elem b) ∙ ap₂ ◌⊕◌ (val_elem a h) (val_elem b l))

pub minus_is : (a b r : ℕ) → a < 256 → b < 256 → r ≡ a ⊕ b → r ≡ minus gf256 a b
unfolding minus plus
minus_is a b r h l e = plus_is a b r h l e ∙ ap (λ e. (ops.add (elem a) e).val) (sym (neg_is (elem b)))

pub times_is : (a b r : ℕ) → r ≡ a ⊗ b → r ≡ times gf256 a b
unfolding times
times_is a b r e = e ∙ sym (val_elem (a ⊗ b) (⊗-lt a b)) ∙ ap (λ x. x.val) (elem_⊗ a b)

pub raised_is : (x e r : ℕ) → r ≡ power x e → r ≡ raised gf256 x e
unfolding raised
raised_is x e r q = q ∙ sym (val_elem (power x e) (power_lt x e)) ∙ ap (λ y. y.val) (elem_power x e)

pub zpow_is : (e : ℕ) → zpow e ≡ root_power gf256 e
unfolding root_power
zpow_is e = sym (val_elem (zpow e) (zpow_lt e)) ∙ ap (λ y. y.val) (elem_zpow e)

pub root_power_is : (e r : ℕ) → r ≡ zpow e → r ≡ root_power gf256 e
root_power_is e r q = q ∙ zpow_is e

inv_zero : ops.inv ops.zero ≡ ops.zero
inv_zero = ap ops.inv (sym elem_zero) ∙ sym (inverse_zero 0 refl) ∙ elem_zero

-- less one
pub minus_one_is : elem 1 ≡ ops.neg ops.one
minus_one_is = elem_one ∙ sym (neg_is ops.one)

-- the root
pub root_is : elem 2 ≡ gf256.root
root_is = refl

-- what the code needs of the field
pub working : Working gf256
working = record {
  field = gf256_laws;
  zero_is = elem_zero;
  one_is = elem_one;
  inv_zero = inv_zero;
  size_is = refl;
  log = log;
  log_below = λ x p h. log_lt p h;
  power_log = λ x p h. sym (zpow_is (log x)) ∙ zpow_log p h;
  room = lit≤ tt;
}

-- numbers that need not be reduced always are
pub lazy_times : (a b r : ℕ) → r ≡ times gf256 a b → elem r ≡ ops.mul (elem a) (elem b)
lazy_times a b r e = ap elem e ∙ elem_times working a b

pub lazy_plus : (a b r : ℕ) → r ≡ plus gf256 a b → elem r ≡ ops.add (elem a) (elem b)
lazy_plus a b r e = ap elem e ∙ elem_plus working a b

pub sum_product_is : (a x y p r : ℕ) → p ≡ times gf256 x y → r ≡ plus gf256 a p → r ≡ plus gf256 a (times gf256 x y)
sum_product_is a x y p r e d = d ∙ ap (plus gf256 a) e
