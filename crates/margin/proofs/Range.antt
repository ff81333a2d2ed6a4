-- The margin runs from -k to n - k, and reaches both: with every tray absent, and with every tray live.
-- Assumes nothing.
use mathlib.Core.Path.{◌≡◌, refl, sym, ap, ap₂, subst, ◌∙◌}
use mathlib.Core.Bool.{Bool, true, false, cond}
use mathlib.Core.List.{List}
use Prim.Native.Nat.{ℕ, suc, ◌-◌, ◌≤◌, ◌<◌}
use native.Mathlib.Decide.{dec_lt}
use native.Mathlib.Omega.{arith}
use lib.Dec.{T, lit≤, eqb}
use lib.IntN.{ℤ, pos, neg_ℤ, ◌-ℤ◌, sub_ℕ, +ℤ_idl}
use lib.ListN.{length, get_or, replicate, length-replicate, get_or-replicate}
use lib.Signed.{le_z, ◌≤ℤ◌, le_z_yes}
use borrow.Author.Tests.{lt-ltb, le-ltb, le-leb}
use Rattle.layout.specs.declared.Layout.{Layout}
use Rattle.layout.specs.Layout.{trays, admissible}
use Rattle.margin.specs.Margin.{live, margin_of, margin_refusal}
use Rattle.margin.proofs.Counting.{live_high, live_same}
use Rattle.margin.proofs.Signed.{sub_is}
use Rattle.margin.proofs.Grounds.{measurable, margin_0}
use Rattle.lists.proofs.Numbered.{below_true}

-- a difference grows with what is taken from
sub_rises : (a b k : ℕ) → a ≤ b → le_z (sub_ℕ a k) (sub_ℕ b k) ≡ true
sub_rises a b k h = elim (dec_lt b k) [
  | yes q ↦ let p : a < k = omega arith in simp (lt-ltb a k p, lt-ltb b k q) (le-leb (k - suc b) (k - suc a) (omega arith))
  | no q ↦ elim (dec_lt a k) [
    | yes p ↦ let g : k ≤ b = omega arith in simp (lt-ltb a k p, le-ltb b k g)
    | no p ↦ let f : k ≤ a = omega arith in let g : k ≤ b = omega arith in simp (le-ltb a k f, le-ltb b k g) (le-leb (a - k) (b - k) (omega arith))
  ]
]

rises : (a b k : ℕ) → a ≤ b → (pos a -ℤ pos k) ≤ℤ (pos b -ℤ pos k)
rises a b k h = le_z_yes (subst T (sym (ap₂ le_z (sub_is a k) (sub_is b k) ∙ sub_rises a b k h)) tt)

pub margin_range : (N : ℕ) (l : Layout) (states : List ℕ) → margin_refusal N l states ≡ 0
    → (neg_ℤ (pos l.dimension) ≤ℤ margin_of l states) × (margin_of l states ≤ℤ (pos (trays l) -ℤ pos l.dimension))
unfolding margin_of
margin_range N l states h =
    let m = measurable N l states h in
    let p = live states (length states) in (
      subst (λ (z : ℤ). z ≤ℤ (pos p -ℤ pos l.dimension)) (+ℤ_idl (neg_ℤ (pos l.dimension))) (rises 0 p l.dimension (omega arith)),
      rises p (trays l) l.dimension (omega (arith, live_high states (length states), m.length_is)),
    )

-- every tray in one state x, which counts or not
module _ (N : ℕ) (l : Layout) (a : admissible N l ≡ true) (x : ℕ) (h : x ≤ 2) (t : Bool) (e : eqb x 1 ≡ t) where
  abbrev states : List ℕ
  states = replicate (trays l) x

  each : (i : ℕ) → i < length states → get_or states i 0 ≡ x
  each i k = get_or-replicate (trays l) i x 0 (omega (arith, length-replicate (trays l) x))

  alike : (margin_refusal N l states ≡ 0) × (margin_of l states ≡ pos (cond t (trays l) 0) -ℤ pos l.dimension)
  unfolding margin_of
  alike = (
    sym (margin_0 N l states true (sym a) refl (trays l) refl (length-replicate (trays l) x) true (below_true states 3 (λ i k. omega (arith, each i k))) refl),
    ap (λ n. pos n -ℤ pos l.dimension) (live_same t states (length states) (λ i k. ap (λ y. eqb y 1) (each i k) ∙ e) ∙ ap (λ n. cond t n 0) (length-replicate (trays l) x)),
  )

pub margin_ends : (N : ℕ) (l : Layout) → admissible N l ≡ true →
    ((margin_refusal N l (replicate (trays l) 0) ≡ 0) × (margin_of l (replicate (trays l) 0) ≡ neg_ℤ (pos l.dimension)))
    × ((margin_refusal N l (replicate (trays l) 1) ≡ 0) × (margin_of l (replicate (trays l) 1) ≡ pos (trays l) -ℤ pos l.dimension))
margin_ends N l a =
    let low = alike N l a 0 (lit≤ tt) false refl in
    ((low.0, low.1 ∙ +ℤ_idl (neg_ℤ (pos l.dimension))), alike N l a 1 (lit≤ tt) true refl)
