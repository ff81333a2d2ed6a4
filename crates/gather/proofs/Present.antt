-- What is gathered, and what a recovery of it hands out, depends on the trays present and on nothing else, over any field and edition.
-- Assumes nothing.
use mathlib.Core.Path.{◌≡◌, refl, sym, ap, ap₂, ◌∙◌, subst}
use mathlib.Core.Bool.{Bool, true, false, cond}
use mathlib.Core.List.{List}
use Prim.Native.Nat.{ℕ, ◌*◌, ◌/◌, ◌%◌, ◌<◌}
use native.Mathlib.Nat.{div-lt_iff_lt-mul}
use native.Mathlib.Decide.{ℕ_discrete}
use native.Mathlib.Omega.{arith}
use lib.ListN.{length, take, drop}
use lib.Seq.{take_at}
use Rattle.lists.proofs.Tables.{table_same}
use Rattle.algebra.specs.Shape.{Field}
use Rattle.algebra.specs.Plain.{Working}
use Rattle.layout.specs.declared.Layout.{Layout}
use Rattle.layout.specs.Layout.{trays, layers, Cabinet}
use Rattle.layout.proofs.Facts.{bounds}
use Rattle.recover.specs.Recover.{RecoverAnswer}
use Rattle.recover.proofs.Settled.{answer_unique}
use Rattle.recover_correcting.specs.declared.Recovered.{Recovered}
use Rattle.recover_correcting.specs.RecoverCorrecting.{CorrectionAnswer}
use Rattle.recover_correcting.proofs.Claims.{correction_claims}
use Rattle.image.specs.declared.Edition.{Edition}
use Rattle.image.specs.Image.{symbol_at}
use Rattle.gather.specs.declared.Gathered.{Gathered}
use Rattle.gather.specs.Gathering.{image_of, present, shown_symbol, gathered_codeword, missing_trays, gather_refusal, GatherAnswer}
use Rattle.gather.specs.Stored.{SamePresent}
use Rattle.gather.proofs.Missing.{missing_same}
use Rattle.gather.proofs.Whole.{gather_facts}

module _ (e : Edition) (l : Layout) (volume : ℕ) (images images' : List ℕ) (s : SamePresent e l volume images images') where
  shown_same : (x j : ℕ) → x < trays l → shown_symbol e l volume images x j ≡ shown_symbol e l volume images' x j
  unfolding shown_symbol
  shown_same x j h = go (present e l volume images x) refl
    where
      go : (b : Bool) → present e l volume images x ≡ b →
          cond (present e l volume images x) (symbol_at e (image_of e l images x) j) 0 ≡ cond (present e l volume images' x)
          (symbol_at e (image_of e l images' x) j) 0
      go true z = ap₂ (λ b v. cond b (symbol_at e v j) 0) (s.same_trays x h) (s.alike x h z)
      go false z = ap (λ b. cond b (symbol_at e (image_of e l images x) j) 0) z
          ∙ sym (ap (λ b. cond b (symbol_at e (image_of e l images' x) j) 0) (sym (s.same_trays x h) ∙ z))

  pub codeword_same : Cabinet l → gathered_codeword e l volume images ≡ gathered_codeword e l volume images'
  unfolding gathered_codeword
  codeword_same adm =
      table_same (λ i. shown_symbol e l volume images (i / layers l) (i % layers l))
      (λ i. shown_symbol e l volume images' (i / layers l) (i % layers l)) (trays l * layers l)
      (λ i h. shown_same (i / layers l) (i % layers l) ((div-lt_iff_lt-mul pos).1 h))
    where
      pos : 0 < layers l
      pos = let b = (bounds l adm).layers_low in omega arith

  pub missing_alike : missing_trays e l volume images ≡ missing_trays e l volume images'
  unfolding missing_trays
  missing_alike = missing_same (present e l volume images) (present e l volume images') (trays l) s.same_trays

-- the list that is handed on: the first so many places
pub list_of : (e : Edition) (l : Layout) (volume : ℕ) (images c m d k : List ℕ) (r : Gathered) → GatherAnswer e l volume images c m d k r →
    r.refusal ≡ 0 →
    take r.count k ≡ missing_trays e l volume images
list_of e l volume images c m d k r g z =
    ap (λ v. take r.count v) (g.list_is z)
    ∙ take_at (missing_trays e l volume images) (drop (length (missing_trays e l volume images)) m) r.count (sym (g.count_is z))

module _ (e : Edition) (l : Layout) (volume : ℕ) (images images' c c' m m' d d' k k' : List ℕ) (r r' : Gathered)
    (s : SamePresent e l volume images images')
    (same_room : length c ≡ length c') (same_list : length m ≡ length m')
    (g : GatherAnswer e l volume images c m d k r) (g' : GatherAnswer e l volume images' c' m' d' k' r') where
  refusals : r.refusal ≡ r'.refusal
  refusals = g.answer ∙ rest (length images) (length images') (length c) (length c') (length m) (length m') s.long same_room same_list
      ∙ sym g'.answer
    where
      rest : (a a' b b' f f' : ℕ) → a ≡ a' → b ≡ b' → f ≡ f' → gather_refusal e l a b f ≡ gather_refusal e l a' b' f'
      rest a a' b b' f f' x y z = cc

  counts : r.count ≡ r'.count
  counts = go (ℕ_discrete r.refusal 0)
    where
      go : Dec (r.refusal ≡ 0) → r.count ≡ r'.count
      go (yes z) = g.count_is z ∙ ap length (missing_alike e l volume images images' s) ∙ sym (g'.count_is (sym refusals ∙ z))
      go (no n) = (g.unchanged n).0 ∙ sym (g'.unchanged (λ z. n (refusals ∙ z))).0

  -- two calls that the same trays are present to, with the same images, answer the same and hand on the same bytes and the same list
  pub present_only : (r ≡ r') × (r.refusal ≡ 0 → (d ≡ d') × (take r.count k ≡ take r'.count k'))
  present_only = (
    (λ i. record { refusal = refusals i; count = counts i }),
    λ z.
        let adm = (gather_facts e l volume images c m (sym g.answer ∙ z)).1.adm in
        let z' = sym refusals ∙ z in (
          g.codeword_is z ∙ codeword_same e l volume images images' s adm ∙ sym (g'.codeword_is z'),
          list_of e l volume images c m d k r g z ∙ missing_alike e l volume images images' s
              ∙ sym (list_of e l volume images' c' m' d' k' r' g' z'),
        ),
  )

  -- and what a recovery hands out then: the same answer and the same bytes. No byte of a tray that is not present, of whatever was reset or
  -- meant for another, has a part in it
  pub recovered_same : {A : Type 0} (f : Field A) (w w' : List ℕ) (n n' : ℕ) → r.refusal ≡ 0 →
      RecoverAnswer f l (take r.count k) d w n → RecoverAnswer f l (take r'.count k') d' w' n' → (n ≡ n') × (w ≡ w')
  recovered_same {A} f w w' n n' z a a' =
      let p = present_only.1 z in
      answer_unique f l (take r.count k) d w n a w' n'
      (subst (λ v. RecoverAnswer f l (take r.count k) v w' n') (sym p.0) (subst (λ v. RecoverAnswer f l v d' w' n') (sym p.1) a'))

  -- and of a recovery that corrects: one wrong tray among them is named alike too
  pub corrected_same : {A : Type 0} {f : Field A} (W : Working f) (w w' : List ℕ) (h h' : Recovered) → r.refusal ≡ 0 →
      CorrectionAnswer f l (take r.count k) d w h → CorrectionAnswer f l (take r'.count k') d' w' h' → (h ≡ h') × (w ≡ w')
  corrected_same {f = f} W w w' h h' z a a' =
      let p = present_only.1 z in
      (correction_claims W).0 l (take r.count k) d w w' h h' a
      (subst (λ v. CorrectionAnswer f l (take r.count k) v w' h') (sym p.0)
      (subst (λ v. CorrectionAnswer f l v d' w' h') (sym p.1) a'))
