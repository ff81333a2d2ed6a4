-- The old bytes of the trays erased are never looked at, over any field.
-- Assumes nothing.
use mathlib.Core.Path.{◌≡◌, refl, sym, ap, ◌∙◌}
use mathlib.Core.List.{List}
use Prim.Native.Nat.{ℕ}
use native.Mathlib.Omega.{arith}
use Rattle.algebra.specs.Shape.{Field}
use Rattle.algebra.specs.Plain.{Working}
use Rattle.layout.specs.declared.Layout.{Layout}
use Rattle.recover.specs.Recover.{Survivors, Restores}
use Rattle.recover.proofs.Settled.{back, through, refusal_same}
use Rattle.recover_correcting.specs.declared.Recovered.{Recovered}
use Rattle.recover_correcting.specs.declared.Recovered.TheVariants.{Done, Refused}
use Rattle.recover_correcting.specs.RecoverCorrecting.{with_tray, report, NoCodeword, Corrects}
use Rattle.recover_correcting.specs.RecoverCorrecting.{NotCorrectable, CorrectionDone, CorrectionRefused, CorrectionAnswer}
use Rattle.recover_correcting.proofs.WithTray.{kept_old}
use Rattle.recover_correcting.proofs.Settled.{answer_unique}

module _ {A : Type 0} (f : Field A) (l : Layout) (es c c' : List ℕ) (s : Survivors l es c c') where
  fewer : (x : ℕ) → Survivors l (with_tray es x) c c'
  fewer x = record { long = s.long; same = λ z j hz hj kept. s.same z j hz hj (kept_old es x z kept) }

  moved : (xs d : List ℕ) → Survivors l xs c c' → Survivors l xs c' d → Survivors l xs c d
  moved xs d a b = through f l xs c' c d (back f l xs c c' a) b

  restores_moved : (xs d : List ℕ) → Survivors l xs c c' → Restores f l xs c' d → Restores f l xs c d
  restores_moved xs d a r = record {
    codeword = r.codeword;
    survivors = moved xs d a r.survivors;
    only = λ e w q. r.only e w
        (through f l xs c c' e a q);
  }

  none_moved : (xs : List ℕ) → Survivors l xs c c' → NoCodeword f l xs c' → NoCodeword f l xs c
  none_moved xs a n e w q = n e w (through f l xs c c' e a q)

  corrects_moved : (d : List ℕ) (x : ℕ) → Corrects f l es c' d x → Corrects f l es c d x
  corrects_moved d x p = record {
    few = p.few;
    none = none_moved es s p.none;
    tray = p.tray;
    restores = restores_moved
        (with_tray es x) d (fewer x) p.restores;
  }

  not_correctable_moved : NotCorrectable f l es c' → NotCorrectable f l es c
  not_correctable_moved p = record {
    none = none_moved es s p.none;
    without = λ few x t. none_moved (with_tray es x) (fewer x)
        (p.without few x t);
  }

  -- what is answered for one buffer is the answer for the other
  done_moved : (d : List ℕ) (x left : ℕ) → CorrectionDone f l es c' d (report (Done x left)) → CorrectionDone f l es c d
      (report (Done x left))
  done_moved d x left p = record {
    accepted = refusal_same f l es c c' s ∙ p.accepted;
    checks_are = p.checks_are;
    sound = λ e. restores_moved es d s (p.sound e);
    named = λ n. corrects_moved d x (p.named n);
  }

  refused_moved : (d : List ℕ) (e : ℕ) → CorrectionRefused f l es c' d (report (Refused e)) → CorrectionRefused f l es c c
      (report (Refused e))
  refused_moved d e p = record {
    reason = p.reason;
    refused = λ n. p.refused (λ z. n (refusal_same f l es c c' s ∙ z)) ∙ sym (refusal_same f l es c c' s);
    last = λ z. let q = p.last (sym (refusal_same f l es c c' s) ∙ z) in (q.0, not_correctable_moved q.1);
    kept = refl;
  }

  -- two calls whose buffers are alike outside the trays erased answer the same and, where done, leave the same bytes
  pub never_looks : Working f → (d d' : List ℕ) (r r' : Recovered) → CorrectionAnswer f l es c d r → CorrectionAnswer f l es c' d' r' →
      (r ≡ r') × ((report r).refusal ≡ 0 → d ≡ d')
  never_looks W d d' r (Done x left) p p' = let q = answer_unique f l W es c d d' r (Done x left) p (done_moved d' x left p') in
      (q.0, λ h. q.1)
  never_looks W d d' r (Refused e) p p' =
      let q = answer_unique f l W es c d c r (Refused e) p (refused_moved d' e p') in
      (q.0, λ h. absurd (let z = sym (ap (λ v. (report v).refusal) q.0) ∙ h in let g = p'.reason in omega arith))
