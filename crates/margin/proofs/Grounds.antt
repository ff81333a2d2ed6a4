-- The grounds for refusing a margin one by one, from the tests as the code makes them, and the answer.
-- Assumes nothing.
use mathlib.Core.Path.{◌≡◌, sym, ap, ◌∙◌}
use mathlib.Core.Bool.{Bool, true, false, not}
use mathlib.Core.List.{List}
use Prim.Native.Nat.{ℕ, ◌≤◌}
use native.Mathlib.Omega.{arith}
use lib.Dec.{eqb, lit<}
use lib.IntN.{ℤ, pos, ◌-ℤ◌}
use lib.ListN.{length}
use borrow.Author.Tests.{eq-eqb, ne_eqb, eqb-true}
use mir.Syntax.{w32}
use mir.Val.{to_z, of_z}
use Rattle.lists.specs.Lists.{all_below}
use Rattle.lists.proofs.Bools.{passed, told_false, told_true}
use Rattle.layout.specs.declared.Layout.{Layout}
use Rattle.layout.specs.Layout.{trays, admissible, tray_limit, Cabinet}
use Rattle.layout.proofs.Facts.{admissible_facts, admitted_so, dimension_in}
use Rattle.margin.specs.declared.LossMargin.TheVariants.{Known, Refused}
use Rattle.margin.specs.Margin.{live, margin_of, margin_refusal, margin_answer}
use Rattle.margin.proofs.Signed.{handed_on}

module _ (N : ℕ) (l : Layout) (states : List ℕ) where
  pub margin_1 : (a : Bool) → a ≡ admissible N l → not a ≡ true → 1 ≡ margin_refusal N l states
  unfolding margin_refusal
  margin_1 a e h = simp (told_false e h)

  module _ (a : Bool) (e : a ≡ admissible N l) (h : not a ≡ false) (n : ℕ) (f : n ≡ trays l) where
    pub margin_2 : (length states ≡ n → ⊥) → 2 ≡ margin_refusal N l states
    unfolding margin_refusal
    margin_2 d = simp (told_true e h, ne_eqb (length states) (trays l) (λ q. d (q ∙ sym f)))

    module _ (k : length states ≡ n) (b : Bool) (g : b ≡ all_below states 3) where
      pub margin_3 : not b ≡ true → 3 ≡ margin_refusal N l states
      unfolding margin_refusal
      margin_3 q = simp (told_true e h, eq-eqb (length states) (trays l) (k ∙ f), told_false g q)

      pub margin_0 : not b ≡ false → 0 ≡ margin_refusal N l states
      unfolding margin_refusal
      margin_0 q = simp (told_true e h, eq-eqb (length states) (trays l) (k ∙ f), told_true g q)

  pub cabinet_so : (a : Bool) → a ≡ admissible N l → not a ≡ false → Cabinet l
  cabinet_so a e h = (admitted_so N l a e h).cabinet

  -- past the grounds there are as many states as trays, and k is within the limit
  pub record Measurable : Type 0 where
    pub length_is : length states ≡ trays l
    pub length_high : length states ≤ tray_limit
    pub dimension_high : l.dimension ≤ tray_limit

  pub measurable : margin_refusal N l states ≡ 0 → Measurable
  unfolding margin_refusal
  measurable h =
      let p = passed (admissible N l) 1 _ (lit< tt) h in
      let q = passed (eqb (length states) (trays l)) 2 _ (lit< tt) p.1 in
      let a = (admissible_facts N l p.0).cabinet in
      let e = eqb-true (length states) (trays l) q.0 in
      record { length_is = e; length_high = omega arith; dimension_high = omega (arith, dimension_in l a) }

  module _ (e : ℕ) (q : e ≡ margin_refusal N l states) where
    module _ (d : e ≡ 0 → ⊥) where
      pub refused_answer : Refused e ≡ margin_answer N l states
      unfolding margin_answer
      refused_answer = simp (ne_eqb (margin_refusal N l states) 0 (λ z. d (q ∙ z))) (ap Refused q)

    module _ (z : e ≡ 0) where
      given_0 : 0 ≡ margin_refusal N l states
      given_0 = sym z ∙ q

      pub given_length : length states ≤ tray_limit
      given_length = (measurable (sym given_0)).length_high

      pub given_dimension : l.dimension ≤ tray_limit
      given_dimension = (measurable (sym given_0)).dimension_high

      -- a margin m that is handed on
      module _ (count : ℕ) (p : count ≡ live states (length states)) (h : count ≤ tray_limit) (m : ℤ) (m-is : m ≡ pos count -ℤ pos l.dimension) where
        is_margin : to_z w32 (of_z w32 m) ≡ margin_of l states
        unfolding margin_of
        is_margin = handed_on count l.dimension h given_dimension m m-is ∙ ap (λ n. pos n -ℤ pos l.dimension) p

        pub given_answer : Known (to_z w32 (of_z w32 m)) ≡ margin_answer N l states
        unfolding margin_answer
        given_answer = simp (eq-eqb (margin_refusal N l states) 0 (sym given_0)) (ap Known is_margin)
