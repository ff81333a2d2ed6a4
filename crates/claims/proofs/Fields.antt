-- What is said of each field by itself: its sums, products and first powers, and the layouts that it admits.
-- Assumes nothing.
use mathlib.Core.Path.{◌≡◌, refl, sym, ap, ap₂, subst, ◌∙◌}
use mathlib.Core.Bool.{true, ◌||◌}
use mathlib.Core.Logic.{◌↔◌, ◌⊎◌, inl, inr, ⊎_elim}
use Prim.Native.Nat.{ℕ, ◌+◌, ◌*◌, ◌/◌, ◌%◌, ◌^◌, ◌<◌, ◌≤◌}
use native.Mathlib.Nat.{add-mod-mod, mod-add-mod}
use native.Mathlib.Omega.{arith}
use borrow.Author.Tests.{eq-eqb, eqb-true}
use lib.Bits.{bit_xor}
use lib.Dec.{eqb}
use Rattle.algebra.specs.Below.{below}
use Rattle.lists.specs.Lists.{all}
use Rattle.lists.proofs.Bools.{all_holds, either}
use Rattle.algebra.specs.Sum.{pow}
use Rattle.algebra.specs.Plain.{plus}
use Rattle.symbol.specs.Arithmetic.{◌⊕◌, ◌⊗◌, mulz, shift_add, power}
use Rattle.symbol.specs.Elem.{gf256}
use Rattle.symbol.proofs.Elem.{val_elem, val_mul, elem_power}
use Rattle.symbol.proofs.Power.{power_lt}
use Rattle.symbol.proofs.Working.{plus_is}
use Rattle.symbol257.specs.Elem.{elem, ops, gf257}
use Rattle.symbol257.proofs.Laws.{mul_mod}
use Rattle.layout.specs.declared.Layout.{Layout}
use Rattle.layout.specs.Layout.{size_allowed, admissible, Cabinet, Admissible}
use Rattle.layout.proofs.Facts.{size_some, admissible_facts, facts_admissible}
use Rattle.layout.proofs.Sizes.{listed_255, listed_256, sizes_255, sizes_256}

pub adds_256 : (a b : ℕ) → a < 256 → b < 256 → gf256.coding.val (gf256.ops.add (gf256.coding.elem a) (gf256.coding.elem b)) ≡ bit_xor a b
unfolding plus ◌⊕◌
adds_256 a b h k = sym (plus_is a b (a ⊕ b) h k refl)

pub multiplies_256 : (a b : ℕ) → a < 256 → b < 256 → gf256.coding.val (gf256.ops.mul (gf256.coding.elem a) (gf256.coding.elem b)) ≡ a ⊗ b
multiplies_256 a b h k = val_mul (gf256.coding.elem a) (gf256.coding.elem b) ∙ ap₂ ◌⊗◌ (val_elem a h) (val_elem b k)

val_pow : (n : ℕ) → gf256.coding.val (pow gf256.ops gf256.root n) ≡ power 2 n
val_pow n = ap (λ x. x.val) (sym (elem_power 2 n)) ∙ val_elem (power 2 n) (power_lt 2 n)

-- by computation
powers_test : all (λ i. eqb (power 2 i) (2 ^ i)) 8 ≡ true
unfolding all power ◌⊗◌ shift_add mulz ◌⊕◌
powers_test = refl

pub low_powers_256 : (i : ℕ) → i < 8 → gf256.coding.val (pow gf256.ops gf256.root i) ≡ 2 ^ i
low_powers_256 i h = val_pow i ∙ eqb-true _ _ (all_holds (λ i. eqb (power 2 i) (2 ^ i)) 8 powers_test i h)

pub eighth_256 : gf256.coding.val (pow gf256.ops gf256.root 8) ≡ 0x1D
eighth_256 = val_pow 8 ∙ eight
  where
    eight : power 2 8 ≡ 0x1D
    eight = unfold power ◌⊗◌ shift_add mulz ◌⊕◌ in refl

pub adds_257 : (a b : ℕ) → gf257.coding.val (gf257.ops.add (gf257.coding.elem a) (gf257.coding.elem b)) ≡ (a + b) % 257
unfolding ops below
adds_257 a b = mod-add-mod a 257 (b % 257) ∙ add-mod-mod a b 257

pub multiplies_257 : (a b : ℕ) → gf257.coding.val (gf257.ops.mul (gf257.coding.elem a) (gf257.coding.elem b)) ≡ (a * b) % 257
unfolding ops below
multiplies_257 a b = mul_mod a b 257

-- one of five numbers
one_of : (u a b c d e : ℕ) → (eqb u a || eqb u b || eqb u c || eqb u d || eqb u e) ≡ true → (u ≡ a) ⊎ (u ≡ b) ⊎ (u ≡ c) ⊎ (u ≡ d) ⊎ (u ≡ e)
one_of u a b c d e t =
    ⊎_elim (λ t. ⊎_elim (λ t. ⊎_elim (λ t. ⊎_elim
    (λ p. inl (eqb-true u a p)) (λ p. inr (inl (eqb-true u b p))) (either _ _ t))
    (λ p. inr (inr (inl (eqb-true u c p)))) (either _ _ t))
    (λ p. inr (inr (inr (inl (eqb-true u d p))))) (either _ _ t))
    (λ p. inr (inr (inr (inr (eqb-true u e p))))) (either _ _ t)

allowed : (N : ℕ) (l : Layout) → Admissible N l → size_allowed N l.size ≡ true
allowed N l a = sym (size_some N l.size (λ z. omega (arith, a.cabinet.size_low))) ∙ eq-eqb _ _ a.size_ok

-- a number that is one of five divides N where each of these does
divides : (N u a b c d e : ℕ) → a * (N / a) ≡ N → b * (N / b) ≡ N → c * (N / c) ≡ N → d * (N / d) ≡ N → e * (N / e) ≡ N →
    (u ≡ a) ⊎ (u ≡ b) ⊎ (u ≡ c) ⊎ (u ≡ d) ⊎ (u ≡ e) → u * (N / u) ≡ N
divides N u a b c d e ha hb hc hd he =
    ⊎_elim (at a ha) (⊎_elim (at b hb) (⊎_elim (at c hc) (⊎_elim (at d hd) (at e he))))
  where
    at : (y : ℕ) → y * (N / y) ≡ N → u ≡ y → u * (N / u) ≡ N
    at y h p = subst (λ z. z * (N / z) ≡ N) (sym p) h

module _ (l : Layout) where
  -- a layout is admissible exactly when the documents' conditions hold
  exactly : (N : ℕ) (listed : Type 0) → (Admissible N l → listed) → (listed → l.size * (N / l.size) ≡ N) →
      (admissible N l ≡ true) ↔ (Cabinet l × (l.errors ≤ 1) × listed)
  exactly N listed found fits = (
    λ t. let a = admissible_facts N l t in (a.cabinet, a.errors_high, found a),
    λ w. sym (facts_admissible N l (record { cabinet = w.0; size_ok = fits w.2; errors_high = w.1 })),
  )

  pub exactly_256 : (admissible 255 l ≡ true) ↔ (Cabinet l × (l.errors ≤ 1) × ((l.size ≡ 1) ⊎ (l.size ≡ 3) ⊎ (l.size ≡ 5) ⊎ (l.size ≡ 15) ⊎ (l.size ≡ 17)))
  exactly_256 = exactly 255 _
      (λ a. one_of l.size 1 3 5 15 17 (listed ∙ sym (sizes_255 l a.cabinet.racks_low a.cabinet.trays_high) ∙ allowed 255 l a))
      (divides 255 l.size 1 3 5 15 17 refl refl refl refl refl)
    where
      listed : (eqb l.size 1 || eqb l.size 3 || eqb l.size 5 || eqb l.size 15 || eqb l.size 17) ≡ listed_255 l.size
      listed = unfold listed_255 in refl

  pub exactly_257 : (admissible 256 l ≡ true) ↔ (Cabinet l × (l.errors ≤ 1) × ((l.size ≡ 1) ⊎ (l.size ≡ 2) ⊎ (l.size ≡ 4) ⊎ (l.size ≡ 8) ⊎ (l.size ≡ 16)))
  exactly_257 = exactly 256 _
      (λ a. one_of l.size 1 2 4 8 16 (listed ∙ sym (sizes_256 l a.cabinet.racks_low a.cabinet.trays_high) ∙ allowed 256 l a))
      (divides 256 l.size 1 2 4 8 16 refl refl refl refl refl)
    where
      listed : (eqb l.size 1 || eqb l.size 2 || eqb l.size 4 || eqb l.size 8 || eqb l.size 16) ≡ listed_256 l.size
      listed = unfold listed_256 in refl
