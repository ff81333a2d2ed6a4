-- With no tray listed the call is the test of all trays, over any field.
-- Assumes nothing.
use mathlib.Core.Path.{◌≡◌, refl, sym, ap, ◌∙◌, subst}
use mathlib.Core.Bool.{Bool, true, false, cond, ◌&&◌}
use mathlib.Core.List.{List, []}
use Prim.Native.Nat.{ℕ, ◌+◌, ◌-◌, ◌*◌, ◌/◌, ◌%◌, ◌<◌}
use native.Mathlib.Nat.{mod-lt, div-add-mod', div-lt_iff_lt-mul}
use native.Mathlib.Omega.{arith}
use borrow.Author.Tests.{eqb-true, le-leb}
use lib.Dec.{eqb, leb}
use lib.ListN.{length, get_or}
use Rattle.lists.specs.Lists.{absent, unless, all_below, strictly_rising}
use Rattle.lists.proofs.Bools.{all_true}
use Rattle.lists.proofs.Numbers.{cell_read}
use Rattle.lists.proofs.Numbered.{below_true, below_all, absent_true, rising_true}
use Rattle.algebra.specs.Shape.{Field}
use Rattle.algebra.specs.Plain.{Working}
use Rattle.algebra.proofs.Erasure.{check_congr}
use Rattle.layout.specs.declared.Layout.{Layout}
use Rattle.layout.specs.Layout.{trays, checks, layers, admissible}
use Rattle.layout.proofs.Facts.{admissible_facts}
use Rattle.range.specs.Range.{symbols_from}
use Rattle.range.proofs.Symbols.{symbols_true, symbols_all}
use Rattle.codeword.specs.declared.Tested.{Tested}
use Rattle.codeword.specs.declared.Tested.TheVariants.{Sound as TestSound, Bad as TestBad, Refused as TestRefused}
use Rattle.codeword.specs.Codeword.{symbol_at, point_at, check_at}
use Rattle.codeword.specs.Test.{test_refusal, TestAnswer}
use Rattle.codeword.proofs.Usable.{usable}
use Rattle.codeword.proofs.Buffers.{layers_pos}
use Rattle.recover.specs.Recover.{kept_symbols, recover_refusal}
use Rattle.recover.proofs.Grounds.{kept_all}
use Rattle.test_kept.specs.declared.Kept.{Kept}
use Rattle.test_kept.specs.TestKept.{Solution, KeptAnswer}
use Rattle.test_kept.specs.Claims.{as_kept}
use Rattle.test_kept.proofs.Settled.{answer_unique}

-- two tests that hold together are one
same_test : (a b : Bool) → (a ≡ true → b ≡ true) → (b ≡ true → a ≡ true) → a ≡ b
same_test true b p q = sym (p refl)
same_test false true p q = q refl
same_test false false p q = refl

-- grounds that differ in the third test alone, where two more never fail
same_grounds : (a b s t : Bool) → (a ≡ true → b ≡ true → s ≡ t) → unless a 1 (unless b 2 (unless s 3 0)) ≡ unless a 1
    (unless b 2 (unless t 3 0))
same_grounds false b s t h = refl
same_grounds true false s t h = refl
same_grounds true true s t h = ap (λ y. unless y 3 0) (h refl refl)

more_grounds : (a b s t p q r : Bool) → p ≡ true → q ≡ true → r ≡ true → (a ≡ true → b ≡ true → s ≡ t) →
    unless a 1 (unless b 2 (unless (p && s) 3 (unless q 4 (unless r 5 0)))) ≡ unless a 1 (unless b 2 (unless t 3 0))
more_grounds a b s t p q r e f g h = rw (e, f, g) (same_grounds a b s t h)

nothing_listed : (x : ℕ) → absent [] x ≡ true
nothing_listed x = sym (absent_true [] x (λ k h. absurd (omega arith)))

module _ {A : Type 0} {f : Field A} (W : Working f) (l : Layout) (c : List ℕ) where
  kept_below : length c ≡ trays l * layers l → 0 < layers l → kept_symbols f l [] c ≡ true → all_below c f.coding.size ≡ true
  kept_below long pos t = sym (below_true c f.coding.size (λ k h. subst (λ i. get_or c i 0 < f.coding.size)
      (div-add-mod' k (layers l)) (at (k / layers l) (k % layers l)
      ((div-lt_iff_lt-mul pos).1 (subst (λ (n : ℕ). k < n) long h)) (mod-lt k pos))))
    where
      at : (x j : ℕ) → x < trays l → j < layers l → get_or c (x * layers l + j) 0 < f.coding.size
      at x j hx hj = symbols_all f c (x * layers l) (layers l) (kept_all f l [] c t x hx (nothing_listed x)) j hj

  below_kept : length c ≡ trays l * layers l → all_below c f.coding.size ≡ true → kept_symbols f l [] c ≡ true
  unfolding kept_symbols
  below_kept long t = all_true _ (trays l) (λ x h. ap (λ b. cond b (symbols_from f c (x * layers l) (layers l)) true) (nothing_listed x)
      ∙ sym (symbols_true f c (x * layers l) (layers l) (λ j k. below_all c f.coding.size t _ (cell_read c _ _ x j long h k))))

  pub refusal_whole : recover_refusal f l [] c ≡ test_refusal f l c
  unfolding recover_refusal test_refusal
  refusal_whole =
      more_grounds (admissible f.order l) (eqb (length c) (trays l * layers l)) (kept_symbols f l [] c) (all_below c f.coding.size)
      (all_below [] (trays l)) (strictly_rising [])
      (leb (length {A = ℕ} []) (checks l)) (sym (below_true [] (trays l) (λ k h. absurd (omega arith))))
      (sym (rising_true [] 0 (omega arith) (λ i h. absurd (omega arith))))
      (le-leb (length {A = ℕ} []) (checks l) (omega arith)) (λ a b.
      let long = eqb-true _ _ b in
      same_test _ _ (kept_below long (layers_pos f l (usable W l (admissible_facts f.order l a)))) (below_kept long))

  -- a solution with no tray listed is the layer itself
  module _ (j : ℕ) where
    pub solution_whole : ((t : ℕ) → t < checks l → check_at f l c j t ≡ f.ops.zero) → Solution f l [] c j
    unfolding check_at
    solution_whole g = record { symbol = λ x. symbol_at f l c x j; survivors = λ x h k. refl; holds = g }

    pub whole_solution : Solution f l [] c j → (t : ℕ) → t < checks l → check_at f l c j t ≡ f.ops.zero
    unfolding check_at
    whole_solution s t h =
        check_congr f.ops W.field.laws (point_at f l j) (trays l) (λ x. x) (λ x. symbol_at f l c x j) s.symbol t
        (λ x q. sym (s.survivors x q (λ k z. absurd (omega arith))))
        ∙ s.holds t h

  all_left : checks l ≡ checks l - length {A = ℕ} []
  all_left = omega arith

  -- what a test of all trays answers is an answer of this call
  test_answer : (t : Tested) → TestAnswer f l c t → KeptAnswer f l [] c (as_kept (checks l) t)
  test_answer TestSound p = (refusal_whole ∙ p.0, all_left, λ j h. solution_whole j (p.1.holds j h))
  test_answer (TestBad j t) p =
      let b = p.1 in (
        refusal_whole ∙ p.0,
        all_left,
        record {
          layer_in = b.layer_in;
          unsolved = λ s. b.broken (whole_solution j.0 s t b.check_in);
          earlier = λ i h. solution_whole i (b.earlier_layers i h);
        },
      )
  test_answer (TestRefused e) p = (p.0 ∙ sym refusal_whole, p.1)

  pub as_test : (t : Tested) (r : Kept) → TestAnswer f l c t → KeptAnswer f l [] c r → r ≡ as_kept (checks l) t
  as_test t r p q = answer_unique f l [] c r (as_kept (checks l) t) q (test_answer t p)
