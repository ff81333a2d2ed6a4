-- Recovery writes erased trays only; with none erased it writes nothing. Testing stops at the first bad layer. Over any field.
-- Assumes nothing.
use mathlib.Core.Path.{◌≡◌, refl, sym, ap, subst, ◌∙◌}
use mathlib.Core.Bool.{Bool, true, false, ◌&&◌}
use mathlib.Core.List.{List, []}
use mathlib.Core.Logic.{◌↔◌, ◌⊎◌, inl, inr}
use Prim.Native.Nat.{ℕ, ◌+◌, ◌*◌, ◌/◌, ◌%◌, ◌<◌, ◌≤◌}
use native.Mathlib.Nat.{mod-lt, div-lt_iff_lt-mul, div-add-mod'}
use native.Mathlib.Decide.{ℕ_discrete}
use native.Mathlib.Omega.{arith}
use borrow.Author.Tests.{ne_eqb, le-leb}
use lib.Dec.{eqb, leb}
use lib.ListN.{length, get_or}
use lib.Seq.{ext_get_or}
use Rattle.lists.specs.Lists.{all, unless, absent, all_below, strictly_rising}
use Rattle.lists.proofs.Numbers.{cell_read}
use Rattle.lists.proofs.Numbered.{below_all, below_true}
use Rattle.lists.proofs.Bools.{all_holds, all_true}
use Rattle.algebra.specs.Shape.{Field}
use Rattle.algebra.specs.Plain.{Working}
use Rattle.algebra.specs.Sum.{pow}
use Rattle.algebra.specs.Lagrange.{check}
use Rattle.algebra.proofs.Sum.{sum_congr}
use Rattle.layout.specs.declared.Layout.{Layout}
use Rattle.layout.specs.declared.Layer.{Layer}
use Rattle.layout.specs.Layout.{trays, checks, layers, admissible, Admissible}
use Rattle.range.specs.Range.{symbols_from}
use Rattle.range.proofs.Symbols.{symbols_true, symbols_all}
use Rattle.codeword.specs.declared.Tested.{Tested}
use Rattle.codeword.specs.declared.Tested.TheVariants.{Sound, Bad, Refused}
use Rattle.codeword.specs.Codeword.{symbol_at, point_at, check_at, Codeword, Usable}
use Rattle.codeword.specs.Test.{test_refusal, FirstBad, TestAnswer}
use Rattle.codeword.proofs.Usable.{usable}
use Rattle.codeword.proofs.Buffers.{layers_pos}
use Rattle.codeword.proofs.Unique.{tested_unique}
use Rattle.layout.proofs.Facts.{admissible_facts}
use Rattle.seen.proofs.Groups.{same_test}
use Rattle.recover.specs.Recover.{kept_symbols, recover_refusal, Survivors, RecoverAnswer}
use Rattle.recover.proofs.Grounds.{recoverable}
use Rattle.repair.proofs.Pieces.{kept_at}
use Rattle.gesarumbo.specs.Boundary.{test_numbers}
use Rattle.claims.specs.Words.{LayerAlike}

module _ {A : Type 0} (f : Field A) (l : Layout) where
  -- whatever a recovery answers, it has written erased trays only
  pub erased_only : (es c d : List ℕ) (n : ℕ) → RecoverAnswer f l es c d n → Survivors l es c d
  erased_only es c d n p = elim (ℕ_discrete n 0) [
    | yes e ↦ (p.done e).survivors
    | no h ↦ subst (λ y. Survivors l es c y) (sym (p.unchanged h)) (record { long = refl; same = λ x j hx hj kept. refl })
  ]

  -- with none erased the trays kept are the whole buffer
  none_kept : (c : List ℕ) → kept_symbols f l [] c ≡ all (λ x. symbols_from f c (x * layers l) (layers l)) (trays l)
  unfolding kept_symbols absent all
  none_kept c = refl

  whole : Usable f l → (c : List ℕ) → length c ≡ trays l * layers l → kept_symbols f l [] c ≡ all_below c f.coding.size
  whole ok c long = none_kept c ∙ same_test _ _
      (λ t. sym (below_true c f.coding.size (λ k h.
      let x : k / layers l < trays l = (div-lt_iff_lt-mul (layers_pos f l ok)).1 (subst (λ n. k < n) long h) in
      subst (λ n. get_or c n 0 < f.coding.size) (div-add-mod' k (layers l))
      (symbols_all f c (k / layers l * layers l) (layers l) (all_holds _ (trays l) t (k / layers l) x) (k % layers l) (mod-lt k (layers_pos f l ok))))))
      (λ t. all_true _ (trays l) (λ x h. sym (symbols_true f c (x * layers l) (layers l) (λ j k. below_all c f.coding.size t (x * layers l + j)
      (cell_read c (trays l) (layers l) x j long h k)))))

  -- with none erased there are the grounds of a test
  shorter : (t : Bool) → unless (all_below [] (trays l) && t) 3 (unless (strictly_rising []) 4 (unless (leb 0 (checks l)) 5 0)) ≡ unless t 3 0
  unfolding all_below strictly_rising all
  shorter true = simp (le-leb 0 (checks l) (omega arith))
  shorter false = refl

  none_grounds : (Admissible f.order l → Usable f l) → (c : List ℕ) → recover_refusal f l [] c ≡ test_refusal f l c
  unfolding recover_refusal test_refusal
  none_grounds ok c = go (admissible f.order l) refl (ℕ_discrete (length c) (trays l * layers l))
    where
      rest : Bool → ℕ
      rest t = unless (all_below [] (trays l) && t) 3 (unless (strictly_rising []) 4 (unless (leb 0 (checks l)) 5 0))

      go : (a : Bool) → admissible f.order l ≡ a → Dec (length c ≡ trays l * layers l) →
          unless a 1 (unless (eqb (length c) (trays l * layers l)) 2 (rest (kept_symbols f l [] c)))
          ≡ unless a 1 (unless (eqb (length c) (trays l * layers l)) 2 (unless (all_below c f.coding.size) 3 0))
      go false e d = refl
      go true e (yes long) = ap (unless (eqb (length c) (trays l * layers l)) 2) (ap rest (whole (ok (admissible_facts f.order l e)) c long) ∙ shorter (all_below c f.coding.size))
      go true e (no d) = simp (ne_eqb _ _ d)

  -- buffers that have all trays of one another are the same
  all_same : Usable f l → (c d : List ℕ) → length c ≡ trays l * layers l → Survivors l [] c d → d ≡ c
  all_same ok c d long s =
      ext_get_or 0 d c s.long (λ n h.
      kept_at (trays l) (layers l) (layers_pos f l ok) n c d (omega (arith, h, s.long, long)) (λ x hx j hj _. s.same x j hx hj (λ k hk. absurd (omega arith))))

  -- a check of a layer depends on that layer alone
  pub check_layer : (c d : List ℕ) (i t : ℕ) → LayerAlike l c d i → check_at f l c i t ≡ check_at f l d i t
  unfolding check_at check symbol_at
  check_layer c d i t same = sum_congr f.ops (trays l) _ _ (λ x h. ap (λ y. f.ops.mul (pow f.ops (point_at f l i x) t) (f.coding.elem y)) (same x h))

  -- what a test that is not refused says, by its numbers
  module _ (c : List ℕ) (z : test_refusal f l c ≡ 0) where
    pub sound_exactly : (r : Tested) → TestAnswer f l c r → ((test_numbers r).verdict ≡ 1) ↔ Codeword f l c
    sound_exactly Sound p = (λ e. p.1, λ good. refl)
    sound_exactly (Bad j t) p = (λ e. absurd (omega (arith, e)), λ good. absurd (p.1.broken (good.holds j.0 p.1.layer_in t p.1.check_in)))
    sound_exactly (Refused e) p = absurd (omega (arith, p.0, p.1, z))

    pub first_bad : (r : Tested) → TestAnswer f l c r → ((test_numbers r).verdict ≡ 2) ↔ FirstBad f l c (test_numbers r).layer (test_numbers r).check
    first_bad Sound p = (λ e. absurd (omega (arith, e)), λ bad. absurd (bad.broken (p.1.holds 0 bad.layer_in 0 bad.check_in)))
    first_bad (Bad j t) p = (λ e. p.1, λ bad. refl)
    first_bad (Refused e) p = absurd (omega (arith, p.0, p.1, z))

  -- an answer that names layer j is that of every buffer alike in the layers 0 .. j that is not refused
  same_bad : (c c' : List ℕ) (j : Layer) (t : ℕ) → TestAnswer f l c (Bad j t) → test_refusal f l c' ≡ 0 →
      ((i : ℕ) → i ≤ j.0 → LayerAlike l c c' i) → (r : Tested) → TestAnswer f l c' r → r ≡ Bad j t
  same_bad c c' j t p z same r q =
      tested_unique f l c' r (Bad j t) q (
        z,
        record {
          layer_in = p.1.layer_in;
          check_in = p.1.check_in;
          broken = λ e. p.1.broken (check_layer c c' j.0 t (same j.0 (omega arith)) ∙ e);
          earlier_layers = λ i h v k. sym (check_layer c c' i v (same i (omega arith))) ∙ p.1.earlier_layers i h v k;
          earlier_checks = λ v h. sym (check_layer c c' j.0 v (same j.0 (omega arith))) ∙ p.1.earlier_checks v h;
        },
      )

  pub stops : (c c' : List ℕ) (r r' : Tested) → TestAnswer f l c r → (test_numbers r).verdict ≡ 2 → test_refusal f l c' ≡ 0 →
      ((i : ℕ) → i ≤ (test_numbers r).layer → LayerAlike l c c' i) → TestAnswer f l c' r' → test_numbers r' ≡ test_numbers r
  stops c c' Sound r' p e z same q = absurd (omega (arith, e))
  stops c c' (Bad j t) r' p e z same q = ap test_numbers (same_bad c c' j t p z same r' q)
  stops c c' (Refused n) r' p e z same q = absurd (omega (arith, e))

module _ {A : Type 0} {f : Field A} (W : Working f) (l : Layout) where
  pub none_erased : (c d : List ℕ) (n : ℕ) → RecoverAnswer f l [] c d n →
      (d ≡ c) × (recover_refusal f l [] c ≡ test_refusal f l c) × (test_refusal f l c ≡ 0 → (n ≡ 0) ⊎ (n ≡ 8))
      × (test_refusal f l c ≡ 0 → (n ≡ 0) ↔ Codeword f l c)
  none_erased c d n p = (same, grounds, answers, λ z. (found, back z))
    where
      grounds : recover_refusal f l [] c ≡ test_refusal f l c
      grounds = none_grounds f l (usable W l) c

      accepted : n ≡ 0 → recover_refusal f l [] c ≡ 0
      accepted e = elim (ℕ_discrete (recover_refusal f l [] c) 0) [
        | yes q ↦ q
        | no q ↦ sym (p.refused q) ∙ e
      ]

      kept : n ≡ 0 → d ≡ c
      kept e = let r = recoverable W l [] c (accepted e) in all_same f l (usable W l r.adm) c d r.long (p.done e).survivors

      same : d ≡ c
      same = elim (ℕ_discrete n 0) [
        | yes e ↦ kept e
        | no h ↦ p.unchanged h
      ]

      answers : test_refusal f l c ≡ 0 → (n ≡ 0) ⊎ (n ≡ 8)
      answers z = elim (ℕ_discrete n 0) [
        | yes e ↦ inl e
        | no h ↦ inr (p.answers (grounds ∙ z) h)
      ]

      found : n ≡ 0 → Codeword f l c
      found e = subst (λ y. Codeword f l y) (kept e) (p.done e).codeword

      back : test_refusal f l c ≡ 0 → Codeword f l c → n ≡ 0
      back z good = elim (ℕ_discrete n 0) [
        | yes e ↦ e
        | no h ↦ absurd (p.none (p.answers (grounds ∙ z) h) c good (record { long = refl; same = λ x j hx hj kept. refl }))
      ]
