-- What the contract of the call settles, and how it goes with the contract of a recovery, over any field.
-- Assumes nothing.
use mathlib.Core.Path.{◌≡◌, refl, sym, ap, ap₂, ◌∙◌}
use mathlib.Core.List.{List}
use mathlib.Core.Logic.{◌↔◌}
use Prim.Native.Nat.{ℕ, ◌+◌, ◌-◌, ◌*◌, ◌<◌, ◌≤◌}
use native.Mathlib.Decide.{ℕ_discrete, dec_lt}
use native.Mathlib.Omega.{arith}
use lib.ListN.{length, get_or}
use Rattle.lists.proofs.Numbered.{absent_true}
use Rattle.algebra.specs.Shape.{Field}
use Rattle.algebra.specs.Plain.{Working}
use Rattle.layout.specs.declared.Layout.{Layout}
use Rattle.layout.specs.declared.Layer.{Layer}
use Rattle.layout.specs.Layout.{trays, checks, layers}
use Rattle.range.proofs.Symbols.{symbols_all}
use Rattle.codeword.specs.Codeword.{Codeword, Usable}
use Rattle.codeword.proofs.Usable.{usable}
use Rattle.recover.specs.Recover.{recover_refusal, Survivors, Restores, RecoverAnswer}
use Rattle.recover.specs.Inner.{Kept as KeptIn}
use Rattle.recover.proofs.Restored.{survivors_fit, restores_exists}
use Rattle.recover.proofs.Grounds.{Recoverable, recoverable, kept_all}
use Rattle.recover.proofs.Answers.{refusal_low, told}
use Rattle.recover.proofs.Settled.{back, refusal_same}
use Rattle.restore.specs.Inner.{LayerFits}
use Rattle.restore.proofs.Fits.{fit_all}
use Rattle.test_kept.specs.declared.Kept.{Kept}
use Rattle.test_kept.specs.declared.Kept.TheVariants.{Sound, Bad, Refused}
use Rattle.test_kept.specs.TestKept.{report, Solution, FirstUnsolved, KeptAnswer}
use Rattle.test_kept.specs.Inner.{FirstLayer}
use Rattle.test_kept.specs.Claims.{AsRecover}
use Rattle.test_kept.proofs.Solutions.{solution_of, fits_of, solution_moved}

-- a layer is its number
module _ {A : Type 0} (f : Field A) (l : Layout) (es c : List ℕ) where
  -- one first layer
  first_same : (j i : ℕ) → FirstUnsolved f l es c j → FirstUnsolved f l es c i → j ≡ i
  first_same j i p q = go (dec_lt j i) (dec_lt i j)
    where
      go : Dec (j < i) → Dec (i < j) → j ≡ i
      go (yes h) b = absurd (p.unsolved (q.earlier j h))
      go (no h) (yes k) = absurd (q.unsolved (p.earlier i k))
      go (no h) (no k) = omega arith

  pub answer_unique : (r r' : Kept) → KeptAnswer f l es c r → KeptAnswer f l es c r' → r ≡ r'
  answer_unique (Sound n) (Sound m) p q = ap Sound (p.1 ∙ sym q.1)
  answer_unique (Sound n) (Bad i m) p q = absurd (q.2.unsolved (p.2 i.0 q.2.layer_in))
  answer_unique (Sound n) (Refused e) p q = absurd (let a = p.0 in let b = q.0 in let g = q.1 in omega arith)
  answer_unique (Bad j n) (Sound m) p q = absurd (p.2.unsolved (q.2 j.0 p.2.layer_in))
  answer_unique (Bad j n) (Bad i m) p q = ap₂ Bad (ap (λ n. record { 0 = n }) (first_same j.0 i.0 p.2 q.2)) (p.1 ∙ sym q.1)
  answer_unique (Bad j n) (Refused e) p q = absurd (let a = p.0 in let b = q.0 in let g = q.1 in omega arith)
  answer_unique (Refused e) (Sound m) p q = absurd (let a = q.0 in let b = p.0 in let g = p.1 in omega arith)
  answer_unique (Refused e) (Bad i m) p q = absurd (let a = q.0 in let b = p.0 in let g = p.1 in omega arith)
  answer_unique (Refused e) (Refused g) p q = ap Refused (p.0 ∙ sym q.0)

  -- what is answered for a buffer is the answer for one with the same survivors
  module _ (c' : List ℕ) (s : Survivors l es c c') where
    there : (j : ℕ) → j < layers l → Solution f l es c' j → Solution f l es c j
    there = solution_moved f l es c' c (back f l es c c' s)

    pub answer_moved : (r : Kept) → KeptAnswer f l es c' r → KeptAnswer f l es c r
    answer_moved (Sound n) p = (refusal_same f l es c c' s ∙ p.0, p.1, λ j h. there j h (p.2 j h))
    answer_moved (Bad j n) p =
        let b = p.2 in (
          refusal_same f l es c c' s ∙ p.0,
          p.1,
          record {
            layer_in = b.layer_in;
            unsolved = λ g. b.unsolved (solution_moved f l es c c' s j.0 b.layer_in g);
            earlier = λ i h. there i (let k = b.layer_in in omega arith) (b.earlier i h);
          },
        )
    answer_moved (Refused e) p = (p.0 ∙ sym (refusal_same f l es c c' s), p.1)

module _ {A : Type 0} {f : Field A} (W : Working f) (l : Layout) (es c : List ℕ) (no_ground : recover_refusal f l es c ≡ 0) where
  ok : Recoverable f l es c
  ok = recoverable W l es c no_ground

  u : Usable f l
  u = usable W l ok.adm

  -- all layers have a solution where a codeword has the survivors, and only there
  pub solved : (w : List ℕ) → Codeword f l w → Survivors l es c w → (j : ℕ) → j < layers l → Solution f l es c j
  solved w good s j h = solution_of f l u es c ok.listed j (survivors_fit f l u es c ok.listed w good s j h)

  pub codeword_of : ((j : ℕ) → j < layers l → Solution f l es c j) → (w : List ℕ) × (Codeword f l w × Survivors l es c w)
  codeword_of g = let r = there in (r.0, (r.1.codeword, r.1.survivors))
    where
      old : (x j : ℕ) → x < trays l → j < layers l → KeptIn es x → get_or c (x * layers l + j) 0 < f.coding.size
      old x j hx hj kept = symbols_all f c (x * layers l) (layers l) (kept_all f l es c ok.symbols x hx
          (sym (absent_true es x (λ k h e. kept k h (sym e))))) j hj

      there : (d : List ℕ) × Restores f l es c d
      there = restores_exists f l u es c ok.listed ok.long old (λ j h. fits_of f l u es c ok.listed j (g j h))

  pub sound_exactly : (r : Kept) → KeptAnswer f l es c r → ((report r).verdict ≡ 1) ↔ ((w : List ℕ) × (Codeword f l w × Survivors l es c w))
  sound_exactly (Sound n) p = (λ e. codeword_of p.2, λ w. refl)
  sound_exactly (Bad j n) p = (
    λ e. absurd (omega arith),
    λ w. absurd
        (p.2.unsolved (solved w.0 w.1.0 w.1.1 j.0 p.2.layer_in)),
  )
  sound_exactly (Refused e) p = absurd (let a = p.0 in let g = p.1 in omega arith)

  -- with as many trays erased as there are checks every layer has one
  pub nothing_tested : length es ≡ checks l → (r : Kept) → KeptAnswer f l es c r → r ≡ Sound 0
  nothing_tested e (Sound n) p = ap Sound (p.1 ∙ (let z : checks l - length es ≡ 0 = omega arith in z))
  nothing_tested e (Bad j n) p =
      absurd (p.2.unsolved (solution_of f l u es c ok.listed j.0
      (fit_all W l (layers l) es c (told W l es c no_ground (layers l) refl) ok.adm e j.0 p.2.layer_in)))
  nothing_tested e (Refused n) p = absurd (let a = p.0 in let g = p.1 in omega arith)

  -- ---- what the code gives
  pub answer_sound : (left : ℕ) → left ≡ checks l - length es → ((j : ℕ) → j < layers l → LayerFits f l es c j) → KeptAnswer f l es c
      (Sound left)
  answer_sound left e g = (no_ground, e, λ j h. solution_of f l u es c ok.listed j (g j h))

  pub answer_bad : (j : Layer) (left : ℕ) → left ≡ checks l - length es → FirstLayer f l es c j.0 → KeptAnswer f l es c (Bad j left)
  answer_bad j left e b = (
    no_ground,
    e,
    record {
      layer_in = b.layer_in;
      unsolved = λ g. b.unfit (fits_of f l u es c ok.listed j.0 g);
      earlier = λ i h. solution_of f l u es c ok.listed i (b.earlier i h);
    },
  )

-- what a recovery answers
module _ {A : Type 0} {f : Field A} (W : Working f) (l : Layout) (es c d : List ℕ) (number : ℕ) (p : RecoverAnswer f l es c d number) where
  pub as_recover : (r : Kept) → KeptAnswer f l es c r → AsRecover r number
  as_recover (Sound n) q = record {
    sound = (λ e. done, λ e. refl);
    bad = (
      λ e. absurd (omega arith),
      λ e. absurd (let z = done in
          omega arith),
    );
    refused = λ e. absurd (e refl);
  }
    where
      go : Dec (number ≡ 0) → number ≡ 0
      go (yes e) = e
      go (no e) = let w = codeword_of W l es c q.0 q.2 in absurd (p.none (p.answers q.0 e) w.0 w.1.0 w.1.1)

      done : number ≡ 0
      done = go (ℕ_discrete number 0)
  as_recover (Bad j n) q = record {
    sound = (λ e. absurd (omega arith), λ e. absurd (not_done e));
    bad = (
      λ e. p.answers q.0 not_done,
      λ e. refl,
    );
    refused = λ e. absurd (e refl);
  }
    where
      not_done : ¬ (number ≡ 0)
      not_done e = let r = p.done e in q.2.unsolved (solved W l es c q.0 d r.codeword r.survivors j.0 q.2.layer_in)
  as_recover (Refused e) q = record {
    sound = (λ z. absurd (omega arith), λ z. absurd (let a = same in let g = q.1 in omega arith));
    bad = (λ z. absurd (omega arith), λ z. absurd (let a = same in let b = low in omega arith));
    refused = λ z. same;
  }
    where
      same : e ≡ number
      same = q.0 ∙ sym (p.refused (λ z. let a = q.0 in let g = q.1 in omega arith))

      low : e ≤ 5
      low = let a = q.0 in let b = refusal_low W l es c in omega arith
