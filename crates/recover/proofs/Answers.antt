-- The answers of a recovery.
-- Assumes nothing.
use mathlib.Core.Path.{◌≡◌, refl, sym, ◌∙◌}
use mathlib.Core.Bool.{Bool, true, false, ◌&&◌}
use mathlib.Core.List.{List}
use Prim.Native.Nat.{ℕ, ◌+◌, ◌*◌, ◌<◌, ◌≤◌}
use native.Mathlib.Omega.{arith}
use lib.Dec.{eqb, leb}
use lib.ListN.{length, get_or}
use Rattle.lists.specs.Lists.{unless, all_below, strictly_rising}
use Rattle.lists.proofs.Numbered.{absent_true}
use Rattle.algebra.specs.Shape.{Field}
use Rattle.algebra.specs.Plain.{Working}
use Rattle.layout.specs.declared.Layout.{Layout}
use Rattle.layout.specs.Layout.{trays, checks, layers, admissible}
use Rattle.range.proofs.Symbols.{symbols_all}
use Rattle.codeword.proofs.Usable.{usable}
use Rattle.codeword.proofs.Buffers.{layers_pos}
use Rattle.recover.specs.Recover.{kept_symbols, recover_refusal, RecoverAnswer}
use Rattle.recover.specs.Inner.{Kept}
use Rattle.restore.specs.Inner.{LayerFits, Erasing, RestoredTo}
use Rattle.recover.proofs.Restored.{survivors_fit, restores, restored_range}
use Rattle.recover.proofs.Grounds.{Recoverable, recoverable, kept_all}

unless_low : (ok : Bool) (n rest : ℕ) → n ≤ 5 → rest ≤ 5 → unless ok n rest ≤ 5
unless_low true n rest h k = k
unless_low false n rest h k = h

module _ {A : Type 0} {f : Field A} (W : Working f) (l : Layout) (es c : List ℕ) where
  pub refusal_low : recover_refusal f l es c ≤ 5
  unfolding recover_refusal
  refusal_low =
      unless_low (admissible f.order l) 1 _ (omega arith) (unless_low (eqb (length c) (trays l * layers l)) 2 _ (omega arith)
      (unless_low (all_below es (trays l) && kept_symbols f l es c) 3 _ (omega arith) (unless_low (strictly_rising es) 4 _ (omega arith)
      (unless_low (leb (length es) (checks l)) 5 _ (omega arith) (omega arith)))))

  -- refused by one of the first grounds
  pub answer_refused : (r : ℕ) → r ≡ recover_refusal f l es c → (r ≡ 0 → ⊥) → RecoverAnswer f l es c c r
  answer_refused r e n = record {
    refused = λ q. e;
    answers = λ q w. absurd (n (e ∙ q));
    unchanged = λ q. refl;
    done = λ q. absurd (n q);
    none = λ q. absurd (omega (arith, refusal_low));
  }

  module _ (no_ground : recover_refusal f l es c ≡ 0) where
    ok : Recoverable f l es c
    ok = recoverable W l es c no_ground

    pub told : (total : ℕ) → total ≡ layers l → Erasing l total es c
    told total e = record { adm = ok.adm.cabinet; total_is = e; long = ok.long; listed = ok.listed }

    -- no codeword has these survivors
    pub answer_none : ¬ ((j : ℕ) → j < layers l → LayerFits f l es c j) → RecoverAnswer f l es c c 8
    answer_none n = record {
      refused = λ q. absurd (q no_ground);
      answers = λ q w. refl;
      unchanged = λ q. refl;
      done = λ q. absurd (omega arith);
      none = λ q e w s. n (survivors_fit f l (usable W l ok.adm) es c ok.listed e w s);
    }

    -- the numbers of the trays not listed are symbols
    old : (x j : ℕ) → x < trays l → j < layers l → Kept es x → get_or c (x * layers l + j) 0 < f.coding.size
    old x j hx hj kept = symbols_all f c (x * layers l) (layers l) (kept_all f l es c ok.symbols x hx (sym (absent_true es x (λ k h e. kept k h (sym e))))) j hj

    -- done
    pub answer_done : (d : List ℕ) → ((j : ℕ) → j < layers l → LayerFits f l es c j) → RestoredTo f l es c (layers l) d → RecoverAnswer f l es c d 0
    answer_done d fits r = record {
      refused = λ q. absurd (q no_ground);
      answers = λ q w. absurd (w refl);
      unchanged = λ q. absurd (q refl);
      done = λ q.
          let u = usable W l ok.adm in
          restores f l u es c ok.listed d ok.long r.long (restored_range f l es c d (layers_pos f l u) ok.long r old) (λ x j hx hj. r.kept x j hj) r.done fits;
      none = λ q. absurd (omega arith);
    }
