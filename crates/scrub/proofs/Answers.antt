-- The answers of the calls, by their tests.
-- Assumes nothing.
use mathlib.Core.Path.{◌≡◌, sym, ap, ap₂, ◌∙◌}
use mathlib.Core.Bool.{true, false, not, ◌&&◌}
use mathlib.Core.List.{List}
use Prim.Native.Nat.{ℕ, ◌*◌, ◌<◌, ◌≤◌}
use borrow.Author.Tests.{lt-ltb, le-ltb, le-leb, eq-eqb, ne_eqb, eqb-true, leb-true, not-false}
use lib.Dec.{eqb, ltb, leb, lit<}
use lib.ListN.{length}
use Rattle.lists.proofs.Bools.{all_holds, all_true, all_false, both, passed}
use Rattle.algebra.specs.Coding.{Coded}
use Rattle.algebra.specs.Shape.{Field}
use Rattle.layout.specs.declared.Layout.{Layout}
use Rattle.layout.specs.Layout.{layers, trays, checks, admissible}
use Rattle.codeword.specs.Codeword.{check_at}
use Rattle.scrub.specs.declared.Walk.{Walk}
use Rattle.scrub.specs.declared.Report.{Report}
use Rattle.scrub.specs.declared.Report.TheVariants.{Begun, Unfinished, Sound, Bad, Refused}
use Rattle.scrub.specs.Scrub.{bad_layer, after, plausible, step_layers, step_symbols, reported, scrub_refusal, scrubbed, begun}
use Rattle.scrub.specs.Inner.{report_of, stepped}

module _ {A : Type 0} (f : Field A) (ok : Coded f.coding) (l : Layout) (c : List ℕ) (j : ℕ) where
  -- elements with the same number are the same
  val_same : (x y : A) → f.coding.val x ≡ f.coding.val y → x ≡ y
  val_same x y e = sym (ok.elem_val x) ∙ ap f.coding.elem e ∙ ok.elem_val y

  pub layer_bad : (t : ℕ) → t < checks l → (check_at f l c j t ≡ f.ops.zero → ⊥) → true ≡ bad_layer f l c j
  unfolding bad_layer
  layer_bad t h d = ap not (all_false _ _ t h (λ e. d (val_same _ _ (eqb-true _ _ e))))

  pub layer_good : ((t : ℕ) → t < checks l → check_at f l c j t ≡ f.ops.zero) → false ≡ bad_layer f l c j
  unfolding bad_layer
  layer_good h = ap not (sym (all_true _ _ (λ t k. eq-eqb _ _ (ap f.coding.val (h t k)))))

  pub good_checks : bad_layer f l c j ≡ false → (t : ℕ) → t < checks l → check_at f l c j t ≡ f.ops.zero
  unfolding bad_layer
  good_checks h t k =
      val_same _ _ (eqb-true _ _
      (all_holds (λ t. eqb (f.coding.val (check_at f l c j t)) (f.coding.val f.ops.zero)) (checks l) (not-false _ h) t k))

module _ (L : ℕ) (w : Walk) where
  pub none_so_far : w.next ≤ L → w.bad ≤ w.next → w.bad ≡ 0 → eqb w.first L ≡ plausible L w
  unfolding plausible
  none_so_far p q e = simp (le-leb _ _ p, le-leb _ _ q, eq-eqb _ _ e)

  pub some_so_far : w.next ≤ L → w.bad ≤ w.next → (w.bad ≡ 0 → ⊥) → ltb w.first w.next ≡ plausible L w
  unfolding plausible
  some_so_far p q d = simp (le-leb _ _ p, le-leb _ _ q, ne_eqb _ _ d)

  -- the numbers of a record that a call takes
  pub in_order : plausible L w ≡ true → (w.next ≤ L) × (w.bad ≤ w.next)
  unfolding plausible
  in_order h =
      let a = both (leb w.next L && leb w.bad w.next) _ h in
      let b = both (leb w.next L) (leb w.bad w.next) a.0 in
      (leb-true _ _ b.0, leb-true _ _ b.1)

  pub is_unfinished : w.next < L → Unfinished ≡ report_of L w
  unfolding report_of
  is_unfinished k = simp (lt-ltb _ _ k)

  pub is_sound : L ≤ w.next → w.bad ≡ 0 → Sound ≡ report_of L w
  unfolding report_of
  is_sound k e = simp (le-ltb _ _ k, eq-eqb _ _ e)

  pub is_bad : L ≤ w.next → (w.bad ≡ 0 → ⊥) → Bad ≡ report_of L w
  unfolding report_of
  is_bad k d = simp (le-ltb _ _ k, ne_eqb _ _ d)

module _ (N : ℕ) (l : Layout) (w : Walk) where
  pub not_begun : admissible N l ≡ false → record { report = Refused 1; walk = w } ≡ begun N l w
  unfolding begun
  not_begun e = simp e

  pub is_begun_lem : (n : ℕ) → admissible N l ≡ true → n ≡ layers l → record { report = Begun; walk = record { next = 0; bad = 0; first = n } } ≡ begun N l w
  unfolding begun
  is_begun_lem n e k = simp (e, k)

module _ {A : Type 0} (f : Field A) (l : Layout) (c : List ℕ) (w : Walk) (budget : ℕ) where
  pub refused_1 : admissible f.order l ≡ false → 1 ≡ scrub_refusal f l c w budget
  unfolding scrub_refusal
  refused_1 e = simp e

  pub refused_2 : admissible f.order l ≡ true → (length c ≡ trays l * layers l → ⊥) → 2 ≡ scrub_refusal f l c w budget
  unfolding scrub_refusal
  refused_2 e k = simp (e, ne_eqb _ _ k)

  -- by the record, and by a number that is no symbol
  pub refused_record : admissible f.order l ≡ true → length c ≡ trays l * layers l → plausible (layers l) w ≡ false → 3 ≡ scrub_refusal f l c w budget
  unfolding scrub_refusal
  refused_record e k p = simp (e, eq-eqb _ _ k, p)

  pub refused_symbol : admissible f.order l ≡ true → length c ≡ trays l * layers l → plausible (layers l) w ≡ true → step_symbols f l c w budget ≡ false →
      3 ≡ scrub_refusal f l c w budget
  unfolding scrub_refusal
  refused_symbol e k p s = simp (e, eq-eqb _ _ k, p, s)

  pub not_refused : admissible f.order l ≡ true → length c ≡ trays l * layers l → plausible (layers l) w ≡ true → step_symbols f l c w budget ≡ true →
      0 ≡ scrub_refusal f l c w budget
  unfolding scrub_refusal
  not_refused e k p s = simp (e, eq-eqb _ _ k, p, s)

  -- what a call that is not refused is told
  pub record Accepted : Type 0 where
    pub adm : admissible f.order l ≡ true
    pub long : length c ≡ trays l * layers l
    pub record_ok : plausible (layers l) w ≡ true
    pub symbols : step_symbols f l c w budget ≡ true

  pub accepted : scrub_refusal f l c w budget ≡ 0 → Accepted
  unfolding scrub_refusal
  accepted e =
      let a = passed (admissible f.order l) 1 _ (lit< tt) e in
      let b = passed (eqb (length c) (trays l * layers l)) 2 _ (lit< tt) a.1 in
      let d = both (plausible (layers l) w) _ (passed (plausible (layers l) w && step_symbols f l c w budget) 3 0 (lit< tt) b.1).0 in
      record { adm = a.0; long = eqb-true _ _ b.0; record_ok = d.0; symbols = d.1 }

  pub step_refused : (n : ℕ) → n ≡ scrub_refusal f l c w budget → (n ≡ 0 → ⊥) → record { report = Refused n; walk = w } ≡ scrubbed f l c w budget
  unfolding scrubbed
  step_refused n e d = simp (ne_eqb _ _ (λ z. d (e ∙ z)), e)

  pub step_taken : scrub_refusal f l c w budget ≡ 0 →
      record { report = report_of (layers l) (stepped f l c w budget); walk = stepped f l c w budget } ≡ scrubbed f l c w budget
  unfolding scrubbed reported report_of stepped
  step_taken e = simp (eq-eqb _ _ e)

  -- the answer of a call, from its parts
  pub step_done : (total k : ℕ) (s : Walk) (r : Report) → scrub_refusal f l c w budget ≡ 0 → total ≡ layers l → k ≡ step_layers total w budget →
      s ≡ after (bad_layer f l c) w k → r ≡ report_of total s → record { report = r; walk = s } ≡ scrubbed f l c w budget
  unfolding stepped
  step_done total k s r e t u q z =
      let is : s ≡ stepped f l c w budget = q ∙ ap (after (bad_layer f l c) w) (u ∙ ap (λ (n : ℕ). step_layers n w budget) t) in
      ap₂ (λ (x : Report) (y : Walk). (record { report = x; walk = y })) (z ∙ ap₂ report_of t is) is ∙ step_taken e
