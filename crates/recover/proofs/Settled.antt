-- What the contract of a recovery settles, over any field: the answer and every byte, by the survivors alone. The old bytes of the trays erased are never
-- looked at.
-- Assumes nothing.
use mathlib.Core.Path.{◌≡◌, refl, sym, ap, ◌∙◌}
use mathlib.Core.Bool.{Bool, true, false, cond}
use mathlib.Core.List.{List}
use Prim.Native.Nat.{ℕ, ◌*◌, ◌<◌}
use mathlib.Core.Logic.{◌↔◌}
use native.Mathlib.Decide.{ℕ_discrete}
use lib.Dec.{ltb}
use Rattle.lists.specs.Lists.{absent}
use Rattle.lists.proofs.Bools.{all_same}
use Rattle.lists.proofs.Numbered.{absent_all}
use Rattle.algebra.specs.Shape.{Field}
use Rattle.layout.specs.declared.Layout.{Layout}
use Rattle.layout.specs.Layout.{trays, layers}
use Rattle.range.specs.Range.{symbols_from}
use Rattle.codeword.specs.Codeword.{Codeword}
use Rattle.recover.specs.Recover.{kept_symbols, recover_refusal, RecoverAnswer, Survivors}

module _ {A : Type 0} (f : Field A) (l : Layout) (es : List ℕ) where
  itself : (c : List ℕ) → Survivors l es c c
  itself c = record { long = refl; same = λ x j hx hj kept. refl }

  pub back : (c c' : List ℕ) → Survivors l es c c' → Survivors l es c' c
  back c c' s = record { long = sym s.long; same = λ x j hx hj kept. sym (s.same x j hx hj kept) }

  pub through : (c c' d : List ℕ) → Survivors l es c c' → Survivors l es c d → Survivors l es c' d
  through c c' d s t = record { long = t.long ∙ sym s.long; same = λ x j hx hj kept. t.same x j hx hj kept ∙ sym (s.same x j hx hj kept) }

  -- the grounds hang on the survivors
  tray_same : (c c' : List ℕ) → Survivors l es c c' → (x : ℕ) → x < trays l → (b : Bool) → absent es x ≡ b →
      cond b (symbols_from f c (x * layers l) (layers l)) true ≡ cond b (symbols_from f c' (x * layers l) (layers l)) true
  unfolding symbols_from
  tray_same c c' s x h false e = refl
  tray_same c c' s x h true e =
      all_same _ _ (layers l) (λ k q. ap (λ (n : ℕ). ltb n f.coding.size) (sym (s.same x k h q (λ i b z. absent_all es x e i b (sym z)))))

  kept_same : (c c' : List ℕ) → Survivors l es c c' → kept_symbols f l es c ≡ kept_symbols f l es c'
  unfolding kept_symbols
  kept_same c c' s = all_same _ _ (trays l) (λ x h. tray_same c c' s x h (absent es x) refl)

  pub refusal_same : (c c' : List ℕ) → Survivors l es c c' → recover_refusal f l es c ≡ recover_refusal f l es c'
  unfolding recover_refusal
  refusal_same c c' s = rw (s.long, kept_same c c' s) refl

  -- one is done and the other refused with 8: that cannot be
  both : (c c' d d' : List ℕ) (n n' : ℕ) → RecoverAnswer f l es c d n → RecoverAnswer f l es c' d' n' → Survivors l es c c' → n ≡ 0 → n' ≡ 8 → ⊥
  both c c' d d' n n' p p' s e e' = let w = p.done e in p'.none e' d w.codeword (through c c' d s w.survivors)

  -- two recoveries whose buffers are alike outside the trays erased answer the same and, where done, leave the same bytes
  pub never_looks : (c c' d d' : List ℕ) (n n' : ℕ) → RecoverAnswer f l es c d n → RecoverAnswer f l es c' d' n' → Survivors l es c c' →
      (n ≡ n') × (n ≡ 0 → d ≡ d')
  never_looks c c' d d' n n' p p' s = (
    number,
    λ e. let w = p.done e in (p'.done (sym number ∙ e)).only d w.codeword (through c c' d s w.survivors),
  )
    where
      same : recover_refusal f l es c ≡ recover_refusal f l es c'
      same = refusal_same c c' s

      go : Dec (recover_refusal f l es c ≡ 0) → Dec (n ≡ 0) → Dec (n' ≡ 0) → n ≡ n'
      go (no q) a b = p.refused q ∙ same ∙ sym (p'.refused (λ z. q (same ∙ z)))
      go (yes q) (yes a) (yes b) = a ∙ sym b
      go (yes q) (yes a) (no b) = absurd (both c c' d d' n n' p p' s a (p'.answers (sym same ∙ q) b))
      go (yes q) (no a) (yes b) = absurd (both c' c d' d n' n p' p (back c c' s) b (p.answers q a))
      go (yes q) (no a) (no b) = p.answers q a ∙ sym (p'.answers (sym same ∙ q) b)

      number : n ≡ n'
      number = go (ℕ_discrete (recover_refusal f l es c) 0) (ℕ_discrete n 0) (ℕ_discrete n' 0)

  module _ (c d : List ℕ) (n : ℕ) (p : RecoverAnswer f l es c d n) where
    -- the contract settles the answer and every byte
    pub answer_unique : (d' : List ℕ) (n' : ℕ) → RecoverAnswer f l es c d' n' → (n ≡ n') × (d ≡ d')
    answer_unique d' n' p' = (same.0, go (ℕ_discrete n 0))
      where
        same : (n ≡ n') × (n ≡ 0 → d ≡ d')
        same = never_looks c c d d' n n' p p' (itself c)

        go : Dec (n ≡ 0) → d ≡ d'
        go (yes e) = same.1 e
        go (no q) = p.unchanged q ∙ sym (p'.unchanged (λ z. q (same.0 ∙ z)))

    module _ (no_ground : recover_refusal f l es c ≡ 0) where
      -- past the other grounds the answer is 8 exactly when no codeword has the survivors
      pub eight_exactly : (n ≡ 8) ↔ ((e : List ℕ) → Codeword f l e → Survivors l es c e → ⊥)
      eight_exactly = (p.none, λ h. p.answers no_ground (λ e. let w = p.done e in h d w.codeword w.survivors))

      -- any at most r trays of a codeword w come back, whatever stood in their place
      pub codeword_returns : (w : List ℕ) → Codeword f l w → Survivors l es c w → (n ≡ 0) × (d ≡ w)
      codeword_returns w good s = (number, sym ((p.done number).only w good s))
        where
          go : Dec (n ≡ 0) → n ≡ 0
          go (yes e) = e
          go (no q) = absurd (p.none (p.answers no_ground q) w good s)

          number : n ≡ 0
          number = go (ℕ_discrete n 0)
