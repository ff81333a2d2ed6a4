-- The answers of the call, over any field.
-- Assumes nothing.
use mathlib.Core.Path.{◌≡◌, refl, sym, ◌∙◌, subst}
use mathlib.Core.List.{List}
use Prim.Native.Nat.{ℕ, ◌+◌, ◌-◌, ◌*◌, ◌<◌, ◌≤◌}
use native.Mathlib.Omega.{arith}
use mathlib.Core.Logic.{◌⊎◌, inl, inr, ⊎_elim}
use native.Mathlib.Decide.{ℕ_discrete}
use lib.ListN.{length, get_or}
use Rattle.lists.proofs.Numbered.{absent_true}
use Rattle.algebra.specs.Shape.{Field}
use Rattle.algebra.specs.Plain.{Working}
use Rattle.layout.specs.declared.Layout.{Layout}
use Rattle.layout.specs.Layout.{trays, checks, layers, Cabinet}
use Rattle.range.proofs.Symbols.{symbols_all}
use Rattle.codeword.proofs.Usable.{usable}
use Rattle.codeword.proofs.Buffers.{layers_pos}
use Rattle.recover.specs.Recover.{recover_refusal, RecoverAnswer}
use Rattle.recover.specs.Inner.{Kept}
use Rattle.recover.proofs.Restored.{survivors_fit, restores, restored_range}
use Rattle.recover.proofs.Grounds.{Recoverable, recoverable, kept_all}
use Rattle.recover.proofs.Answers.{refusal_low}
use Rattle.recover_correcting.specs.declared.Recovered.{Recovered}
use Rattle.recover_correcting.specs.RecoverCorrecting.{with_tray, NoCodeword, Surviving}
use Rattle.recover_correcting.specs.RecoverCorrecting.{CorrectionDone, CorrectionRefused, CorrectionAnswer}
use Rattle.recover_correcting.specs.Inner.{Wrong, Fitting, Replaced}
use Rattle.recover_correcting.proofs.WithTray.{with_listed, kept_old}

module _ {A : Type 0} {f : Field A} (W : Working f) (l : Layout) (es c : List ℕ) where
  -- what recovery answers
  module _ (d : List ℕ) (number : ℕ) (p : RecoverAnswer f l es c d number) where
    accepted : (number ≡ 0) ⊎ (number ≡ 8) → recover_refusal f l es c ≡ 0
    accepted s = go (ℕ_discrete (recover_refusal f l es c) 0)
      where
        go : Dec (recover_refusal f l es c ≡ 0) → recover_refusal f l es c ≡ 0
        go (yes e) = e
        go (no q) = let e = p.refused q in let b = refusal_low W l es c in ⊎_elim (λ z. sym e ∙ z) (λ z. absurd (omega arith)) s

    as_it_was : number ≡ 8 → d ≡ c
    as_it_was e = p.unchanged (λ z. omega arith)

    pub correct_told : number ≡ 8 → (recover_refusal f l es d ≡ 0) × NoCodeword f l es d
    correct_told e = subst (λ y. (recover_refusal f l es y ≡ 0) × NoCodeword f l es y) (sym (as_it_was e)) (accepted (inr e), p.none e)

    pub correction_answer : (d' : List ℕ) (r : Recovered) → number ≡ 8 → CorrectionAnswer f l es d d' r → CorrectionAnswer f l es c d' r
    correction_answer d' r e w = subst (λ y. CorrectionAnswer f l es y d' r) (as_it_was e) w

    pub done_told : ¬ (number ≡ 8) → number ≡ 0 → Cabinet l × (length es ≤ checks l)
    done_told n e = let r = recoverable W l es c (accepted (inl e)) in (r.adm.cabinet, r.listed.few)

    pub answer_refused : ¬ (number ≡ 8) → ¬ (number ≡ 0) → CorrectionRefused f l es c d (record { refusal = number; tray = 0; checks = 0 })
    answer_refused n m = record {
      reason = omega arith;
      refused = p.refused;
      last = λ z. absurd (n (p.answers z m));
      kept = p.unchanged
          m;
    }

    pub answer_sound : (x left : ℕ) → number ≡ 0 → x ≡ trays l → left ≡ checks l - length es → CorrectionDone f l es c d
        (record { refusal = 0; tray = x; checks = left })
    answer_sound x left e t q = record { accepted = accepted (inl e); checks_are = q; sound = λ z. p.done e; named = λ z. absurd (z t) }

  -- past the grounds
  module _ (no_ground : recover_refusal f l es c ≡ 0) (none : NoCodeword f l es c) where
    ok : Recoverable f l es c
    ok = recoverable W l es c no_ground

    pub counts_told : Cabinet l × (length es ≤ checks l)
    counts_told = (ok.adm.cabinet, ok.listed.few)

    pub replace_asks : (left : ℕ) → left ≡ checks l - length es → 2 ≤ left → Wrong f.order l es c
    replace_asks left e h = record { adm = ok.adm; long = ok.long; listed = ok.listed; few = let q = ok.listed.few in omega arith }

    pub answer_few : (left : ℕ) → left ≡ checks l - length es → left < 2 → CorrectionRefused f l es c c
        (record { refusal = 8; tray = 0; checks = 0 })
    answer_few left e h = record {
      reason = omega arith;
      refused = λ z. absurd (z no_ground);
      last = λ z. (refl, record { none = none; without = λ q. absurd (omega arith) });
      kept = refl;
    }

    -- a codeword with the survivors but tray x makes it fit
    fitting : length es + 2 ≤ checks l → (x : ℕ) → Surviving l es x → ¬ Fitting f l es c x → NoCodeword f l (with_tray es x) c
    fitting few x s n e w q = n (record {
      tray = s;
      fits = survivors_fit f l (usable W l ok.adm) (with_tray es x) c (with_listed l es x ok.listed s (omega arith)) e w q;
    })

    module _ (d : List ℕ) (x n left : ℕ) (t : n ≡ trays l) (e : left ≡ checks l - length es) (h : 2 ≤ left) (r : Replaced f l es c d x)
      where
        pub answer_none : n ≤ x → CorrectionRefused f l es c d (record { refusal = 8; tray = 0; checks = 0 })
        answer_none b =
            let all : x ≡ trays l = (let q = r.high in omega arith) in
            record {
              reason = omega arith;
              refused = λ z. absurd (z no_ground);
              last = λ z. (refl, record { none = none; without = λ q y s. fitting q y s (r.none all y) });
              kept = r.kept all;
            }

        -- the numbers of the trays not listed are symbols
        old : (y j : ℕ) → y < trays l → j < layers l → Kept (with_tray es x) y → get_or c (y * layers l + j) 0 < f.coding.size
        old y j hy hj kept =
            symbols_all f c (y * layers l) (layers l)
            (kept_all f l es c ok.symbols y hy (sym (absent_true es y (λ k q z. kept_old es x y kept k q (sym z))))) j hj

        pub answer_named : x < n → CorrectionDone f l es c d (record { refusal = 0; tray = x; checks = left })
        answer_named b =
            let inside : x < trays l = omega arith in
            let w = r.fits inside in
            let g = r.restored inside in
            let u = usable W l ok.adm in
            let few : length es + 2 ≤ checks l = (let q = ok.listed.few in omega arith) in
            record {
              accepted = no_ground;
              checks_are = e;
              sound = λ z. absurd (omega arith);
              named = λ z. record {
                few = few;
                none = none;
                tray = w.tray;
                restores = restores f l u (with_tray es x) c (with_listed l es x ok.listed w.tray (omega arith)) d ok.long g.long
                    (restored_range f l (with_tray es x) c d (layers_pos f l u) ok.long g old) (λ y j hy hj. g.kept y j hj) g.done
                    w.fits;
              };
            }
