-- Plain numbers that stand for elements: their sums, differences, products and powers stand for those of the elements.
-- Assumes nothing.
use mathlib.Core.Path.{◌≡◌, sym, ap, ◌∙◌}
use Prim.Native.Nat.{ℕ, suc, ◌+◌, ◌*◌, ◌/◌, ◌%◌, ◌<◌}
use native.Mathlib.Omega.{arith}
use native.Mathlib.Nat.{div-add-mod}
use Rattle.algebra.specs.Field.{Laws}
use Rattle.algebra.specs.Sum.{pow}
use Rattle.algebra.specs.Shape.{Field}
use Rattle.algebra.specs.Plain.{reduced, plus, minus, times, raised, root_power, Working}
use Rattle.algebra.proofs.Coding.{elem_same as same_number}
use Rattle.algebra.proofs.Pow.{pow_zero, pow_suc, pow_add, pow_mul, mul_pow, one_pow}

module _ {A : Type 0} {f : Field A} (W : Working f) where
  open f.ops use {add, mul, neg, inv}
  open f use {ops}
  open f.coding use {elem, val, size}

  pub laws : Laws ops
  laws = W.field.laws

  elem_val : (x : A) → elem (val x) ≡ x
  elem_val = W.field.coded.elem_val

  pub val_below : (x : A) → val x < size
  val_below = W.field.coded.val_below

  pub elem_reduced : (a : ℕ) → elem (reduced f a) ≡ elem a
  unfolding reduced
  elem_reduced a = elem_val _

  pub reduced_below : (a : ℕ) → reduced f a < size
  unfolding reduced
  reduced_below a = val_below _

  pub reduced_own : (a : ℕ) → a < size → reduced f a ≡ a
  unfolding reduced
  reduced_own a h = W.field.coded.val_elem a h

  pub elem_plus : (a b : ℕ) → elem (plus f a b) ≡ add (elem a) (elem b)
  unfolding plus
  elem_plus a b = elem_val _

  pub elem_minus : (a b : ℕ) → elem (minus f a b) ≡ add (elem a) (neg (elem b))
  unfolding minus
  elem_minus a b = elem_val _

  pub elem_times : (a b : ℕ) → elem (times f a b) ≡ mul (elem a) (elem b)
  unfolding times
  elem_times a b = elem_val _

  pub elem_raised : (x e : ℕ) → elem (raised f x e) ≡ pow ops (elem x) e
  unfolding raised
  elem_raised x e = elem_val _

  pub elem_root_power : (e : ℕ) → elem (root_power f e) ≡ pow ops f.root e
  unfolding root_power
  elem_root_power e = elem_val _

  pub plus_below : (a b : ℕ) → plus f a b < size
  unfolding plus
  plus_below a b = val_below _

  pub minus_below : (a b : ℕ) → minus f a b < size
  unfolding minus
  minus_below a b = val_below _

  pub times_below : (a b : ℕ) → times f a b < size
  unfolding times
  times_below a b = val_below _

  pub root_power_below : (e : ℕ) → root_power f e < size
  unfolding root_power
  root_power_below e = val_below _

  -- the numbers 0 and 1
  pub elem_zero : elem 0 ≡ ops.zero
  elem_zero = W.zero_is

  pub elem_one : elem 1 ≡ ops.one
  elem_one = W.one_is

  pub zero_below : 0 < size
  zero_below = let e = W.size_is in omega arith

  pub one_below : 1 < size
  one_below = let e = W.size_is in let r = W.room in omega arith

  -- numbers below the size that stand for one element are the same
  pub elem_same : (m n : ℕ) → m < size → n < size → elem m ≡ elem n → m ≡ n
  elem_same = same_number f.coding W.field.coded

  pub elem_nil : (n : ℕ) → n < size → elem n ≡ ops.zero → n ≡ 0
  elem_nil n h e = elem_same n 0 h zero_below (e ∙ sym elem_zero)

  -- the power by halving the exponent: q is the square, h the power of q by half the exponent
  half : (x q e k : ℕ) → q ≡ times f x x → pow ops (elem q) k ≡ pow ops (elem x) (k + k)
  half x q e k p =
      ap (λ (y : ℕ). pow ops (elem y) k) p ∙ ap (λ y. pow ops y k) (elem_times x x)
      ∙ mul_pow ops laws (elem x) (elem x) k ∙ sym (pow_add ops laws (elem x) k k)

  pub raised_none : (x e : ℕ) → e ≡ 0 → 1 ≡ raised f x e
  unfolding raised
  raised_none x e h =
      sym (W.field.coded.val_elem 1 one_below) ∙ ap val (elem_one ∙ sym (pow_zero ops (elem x)) ∙ ap (pow ops (elem x)) (sym h))

  pub raised_even : (x q h e : ℕ) → (e % 2 ≡ 1 → ⊥) → q ≡ times f x x → h ≡ raised f q (e / 2) → h ≡ raised f x e
  unfolding raised
  raised_even x q h e d p r = r ∙ ap val (half x q e (e / 2) p ∙ ap (pow ops (elem x)) whole)
    where
      whole : e / 2 + e / 2 ≡ e
      whole = omega arith

  pub raised_odd : (x q h r e : ℕ) → e % 2 ≡ 1 → q ≡ times f x x → h ≡ raised f q (e / 2) → r ≡ times f x h → r ≡ raised f x e
  unfolding times
  raised_odd x q h r e d p s t =
      t ∙ ap (λ y. val (mul (elem x) y)) (ap elem s ∙ elem_raised q (e / 2) ∙ half x q e (e / 2) p)
      ∙ sym (ap val (pow_suc ops (elem x) (e / 2 + e / 2))) ∙ last
    where
      whole : suc (e / 2 + e / 2) ≡ e
      whole = omega arith

      last : val (pow ops (elem x) (suc (e / 2 + e / 2))) ≡ raised f x e
      last = unfold raised in ap (λ (n : ℕ). val (pow ops (elem x) n)) whole

  -- the powers of the root repeat
  pub root_power_mod : (e : ℕ) → root_power f (e % f.order) ≡ root_power f e
  unfolding root_power
  root_power_mod e = ap val (sym (
      ap (pow ops f.root) (sym (div-add-mod e f.order))
      ∙ pow_add ops laws f.root (f.order * (e / f.order)) (e % f.order)
      ∙ ap (λ y. mul y (pow ops f.root (e % f.order)))
      (pow_mul ops laws f.root f.order (e / f.order) ∙ ap (λ y. pow ops y (e / f.order)) W.field.root.full ∙ one_pow ops laws (e / f.order))
      ∙ laws.one_mul (pow ops f.root (e % f.order))))
