-- What the contracts of recovery and of giving the data settle: the answer and every byte, by the survivors alone; from any seven trays of a word they give
-- the word and its data. The old values of the trays erased are never looked at.
-- Assumes nothing.
use mathlib.Core.Path.{◌≡◌, refl, sym, ap, ap₂, ◌∙◌}
use mathlib.Core.Bool.{Bool, true, false, not, ◌&&◌, ◌||◌}
use mathlib.Core.Logic.{◌↔◌}
use mathlib.Core.List.{List}
use Prim.Native.Nat.{ℕ, ◌<◌, ◌≤◌}
use native.Mathlib.Decide.{ℕ_discrete}
use borrow.Author.Tests.{eq-eqb, lt-ltb, le-leb}
use lib.Dec.{eqb, ltb, leb}
use lib.ListN.{length, get_or}
use Rattle.lists.specs.Lists.{unless, all_below, strictly_rising, absent}
use Rattle.lists.proofs.Bools.{all_same, all_true}
use Rattle.lists.proofs.Numbered.{absent_all}
use Rattle.box_words.specs.Box.{trays, dimension, erasable, Data, word_of, Word}
use Rattle.box_words.proofs.Words.{word_long, word_symbol}
use Rattle.box_recover.specs.Recover.{survivors_below, list_refusal, recover_refusal, data_refusal, Survivors, RecoverAnswer, DataAnswer}

module _ (es : List ℕ) where
  itself : (c : List ℕ) → Survivors es c c
  itself c = record { long = refl; same = λ x h k. refl }

  back : (c c' : List ℕ) → Survivors es c c' → Survivors es c' c
  back c c' s = record { long = sym s.long; same = λ x h k. sym (s.same x h k) }

  through : (c c' d : List ℕ) → Survivors es c c' → Survivors es c d → Survivors es c' d
  through c c' d s t = record { long = t.long ∙ sym s.long; same = λ x h k. t.same x h k ∙ sym (s.same x h k) }

  -- the grounds look at the survivors alone
  below_same : (c c' : List ℕ) → Survivors es c c' → survivors_below es c ≡ survivors_below es c'
  unfolding survivors_below
  below_same c c' s = all_same _ _ trays (λ x h. go x h (absent es x) refl)
    where
      go : (x : ℕ) → x < trays → (b : Bool) → absent es x ≡ b → (not (absent es x) || ltb (get_or c x 0) 16) ≡ (not (absent es x) || ltb (get_or c' x 0) 16)
      go x h false e = simp e
      go x h true e = ap (λ n. not (absent es x) || ltb n 16) (sym (s.same x h (λ k l z. absent_all es x e k l (sym z))))

  list_same : (c c' : List ℕ) → Survivors es c c' → list_refusal es c ≡ list_refusal es c'
  unfolding list_refusal
  list_same c c' s = ap (λ b. unless (all_below es trays && b) 3 (unless (strictly_rising es) 4 (unless (leb (length es) 9) 5 0))) (below_same c c' s)

  recover_same : (c c' : List ℕ) → Survivors es c c' → recover_refusal es c ≡ recover_refusal es c'
  unfolding recover_refusal
  recover_same c c' s = ap₂ (λ (n r : ℕ). unless (eqb n trays) 2 r) (sym s.long) (list_same c c' s)

  data_same : (c c' : List ℕ) (room : ℕ) → Survivors es c c' → data_refusal es c room ≡ data_refusal es c' room
  unfolding data_refusal
  data_same c c' room s = ap₂ (λ (n r : ℕ). unless (eqb n trays && eqb room dimension) 2 r) (sym s.long) (list_same c c' s)

  -- the survivors of a word are symbols
  module _ (b : all_below es trays ≡ true) (r : strictly_rising es ≡ true) (few : length es ≤ erasable) (d : List ℕ) where
    word_below : survivors_below es (word_of d) ≡ true
    unfolding survivors_below
    word_below = all_true _ trays (λ x h. or_true (not (absent es x)) (ltb (get_or (word_of d) x 0) 16) (lt-ltb _ _ (word_symbol d x h)))
      where
        or_true : (a t : Bool) → t ≡ true → (a || t) ≡ true
        or_true true t e = refl
        or_true false t e = e

    word_list : list_refusal es (word_of d) ≡ 0
    unfolding list_refusal
    word_list = simp (b, word_below, r, le-leb _ _ few)

    word_accepted : recover_refusal es (word_of d) ≡ 0
    unfolding recover_refusal
    word_accepted = simp (eq-eqb _ _ (word_long d), word_list)

    word_gives : (room : ℕ) → room ≡ dimension → data_refusal es (word_of d) room ≡ 0
    unfolding data_refusal
    word_gives room e = simp (eq-eqb _ _ (word_long d), eq-eqb _ _ e, word_list)

  -- ---- recovery

  both : (c c' d d' : List ℕ) (n n' : ℕ) → RecoverAnswer es c d n → RecoverAnswer es c' d' n' → Survivors es c c' → n ≡ 0 → n' ≡ 8 → ⊥
  both c c' d d' n n' p p' s e e' = let w = p.done e in p'.none e' d w.word (through c c' d s w.survivors)

  -- two recoveries whose buffers are alike outside the trays erased answer the same and, where done, leave the same bytes
  pub never_looks : (c c' d d' : List ℕ) (n n' : ℕ) → RecoverAnswer es c d n → RecoverAnswer es c' d' n' → Survivors es c c' → (n ≡ n') × (n ≡ 0 → d ≡ d')
  never_looks c c' d d' n n' p p' s = (
    number,
    λ e. let w = p.done e in (p'.done (sym number ∙ e)).only d w.word (through c c' d s w.survivors),
  )
    where
      same : recover_refusal es c ≡ recover_refusal es c'
      same = recover_same c c' s

      go : Dec (recover_refusal es c ≡ 0) → Dec (n ≡ 0) → Dec (n' ≡ 0) → n ≡ n'
      go (no q) a b = p.refused q ∙ same ∙ sym (p'.refused (λ z. q (same ∙ z)))
      go (yes q) (yes a) (yes b) = a ∙ sym b
      go (yes q) (yes a) (no b) = absurd (both c c' d d' n n' p p' s a (p'.answers (sym same ∙ q) b))
      go (yes q) (no a) (yes b) = absurd (both c' c d' d n' n p' p (back c c' s) b (p.answers q a))
      go (yes q) (no a) (no b) = p.answers q a ∙ sym (p'.answers (sym same ∙ q) b)

      number : n ≡ n'
      number = go (ℕ_discrete (recover_refusal es c) 0) (ℕ_discrete n 0) (ℕ_discrete n' 0)

  -- the contract settles the answer and every byte
  pub answer_unique : (c d d' : List ℕ) (n n' : ℕ) → RecoverAnswer es c d n → RecoverAnswer es c d' n' → (n ≡ n') × (d ≡ d')
  answer_unique c d d' n n' p p' = (same.0, go (ℕ_discrete n 0))
    where
      same : (n ≡ n') × (n ≡ 0 → d ≡ d')
      same = never_looks c c d d' n n' p p' (itself c)

      go : Dec (n ≡ 0) → d ≡ d'
      go (yes e) = same.1 e
      go (no q) = p.unchanged q ∙ sym (p'.unchanged (λ z. q (same.0 ∙ z)))

  -- past the other grounds the answer is 8 exactly when no word has the survivors
  pub eight_exactly : (c d : List ℕ) (n : ℕ) → RecoverAnswer es c d n → recover_refusal es c ≡ 0 → (n ≡ 8) ↔ ((e : List ℕ) → Word e → Survivors es c e → ⊥)
  eight_exactly c d n p z = (p.none, λ h. p.answers z (λ e. let w = p.done e in h d w.word w.survivors))

  -- any seven trays of a word give it back, whatever stood in the places of the others
  pub any_seven : (c d w : List ℕ) (n : ℕ) → RecoverAnswer es c d n → all_below es trays ≡ true → strictly_rising es ≡ true → length es ≤ erasable → Word w → Survivors es c w →
      (n ≡ 0) × (d ≡ w)
  any_seven c d w n p b r few good s = (number, sym ((p.done number).only w good s))
    where
      accepted : recover_refusal es c ≡ 0
      accepted = recover_same c w s ∙ ap (recover_refusal es) good.is ∙ word_accepted b r few good.coefficients

      go : Dec (n ≡ 0) → n ≡ 0
      go (yes e) = e
      go (no q) = absurd (p.none (p.answers accepted q) w good s)

      number : n ≡ 0
      number = go (ℕ_discrete n 0)

  -- ---- the data

  both_data : (c c' old old' d d' : List ℕ) (n n' : ℕ) → DataAnswer es c old d n → DataAnswer es c' old' d' n' → Survivors es c c' → n ≡ 0 → n' ≡ 8 → ⊥
  both_data c c' old old' d d' n n' p p' s e e' = let w = p.done e in p'.none e' d w.given (through c c' (word_of d) s w.survivors)

  -- two calls whose values are alike outside the trays erased, with room of the same length, answer the same and, where done, give the same data
  pub data_never_looks : (c c' old old' d d' : List ℕ) (n n' : ℕ) → DataAnswer es c old d n → DataAnswer es c' old' d' n' → Survivors es c c' → length old ≡ length old' →
      (n ≡ n') × (n ≡ 0 → d ≡ d')
  data_never_looks c c' old old' d d' n n' p p' s long = (
    number,
    λ e. let w = p.done e in (p'.done (sym number ∙ e)).only d w.given (through c c' (word_of d) s w.survivors),
  )
    where
      same : data_refusal es c (length old) ≡ data_refusal es c' (length old')
      same = data_same c c' (length old) s ∙ ap (data_refusal es c') long

      go : Dec (data_refusal es c (length old) ≡ 0) → Dec (n ≡ 0) → Dec (n' ≡ 0) → n ≡ n'
      go (no q) a b = p.refused q ∙ same ∙ sym (p'.refused (λ z. q (same ∙ z)))
      go (yes q) (yes a) (yes b) = a ∙ sym b
      go (yes q) (yes a) (no b) = absurd (both_data c c' old old' d d' n n' p p' s a (p'.answers (sym same ∙ q) b))
      go (yes q) (no a) (yes b) = absurd (both_data c' c old' old d' d n' n p' p (back c c' s) b (p.answers q a))
      go (yes q) (no a) (no b) = p.answers q a ∙ sym (p'.answers (sym same ∙ q) b)

      number : n ≡ n'
      number = go (ℕ_discrete (data_refusal es c (length old)) 0) (ℕ_discrete n 0) (ℕ_discrete n' 0)

  pub data_unique : (c old d d' : List ℕ) (n n' : ℕ) → DataAnswer es c old d n → DataAnswer es c old d' n' → (n ≡ n') × (d ≡ d')
  data_unique c old d d' n n' p p' = (same.0, go (ℕ_discrete n 0))
    where
      same : (n ≡ n') × (n ≡ 0 → d ≡ d')
      same = data_never_looks c c old old d d' n n' p p' (itself c) refl

      go : Dec (n ≡ 0) → d ≡ d'
      go (yes e) = same.1 e
      go (no q) = p.unchanged q ∙ sym (p'.unchanged (λ z. q (same.0 ∙ z)))

  -- past the other grounds the answer is 8 exactly when no data have a word with the survivors
  pub data_eight_exactly : (c old d : List ℕ) (n : ℕ) → DataAnswer es c old d n → data_refusal es c (length old) ≡ 0 → (n ≡ 8) ↔ ((e : List ℕ) → Data e → Survivors es c (word_of e) → ⊥)
  data_eight_exactly c old d n p z = (p.none, λ h. p.answers z (λ e. let w = p.done e in h d w.given w.survivors))

  -- the data come back from any seven trays of their word
  pub data_any_seven : (c old new d : List ℕ) (n : ℕ) → DataAnswer es c old new n → length old ≡ dimension → all_below es trays ≡ true → strictly_rising es ≡ true → length es ≤ erasable →
      Data d → Survivors es c (word_of d) → (n ≡ 0) × (new ≡ d)
  data_any_seven c old new d n p long b r few good s = (number, sym ((p.done number).only d good s))
    where
      accepted : data_refusal es c (length old) ≡ 0
      accepted = data_same c (word_of d) (length old) s ∙ word_gives b r few d (length old) long

      go : Dec (n ≡ 0) → n ≡ 0
      go (yes e) = e
      go (no q) = absurd (p.none (p.answers accepted q) d good s)

      number : n ≡ 0
      number = go (ℕ_discrete n 0)
