-- The same where one tray that is present has wrong symbols: gathering and then recovering with one tray corrected gives back the codeword
-- and names that tray. Over any field and its edition.
-- Assumes nothing.
use mathlib.Core.Path.{◌≡◌, refl, sym, ap, ◌∙◌, subst}
use mathlib.Core.Bool.{Bool, true, false, false≢true}
use mathlib.Core.List.{List}
use Prim.Native.Nat.{ℕ, ◌+◌, ◌<◌, ◌≤◌}
use native.Mathlib.Decide.{ℕ_discrete}
use native.Mathlib.Omega.{arith}
use lib.ListN.{length, take}
use Rattle.algebra.specs.Shape.{Field}
use Rattle.algebra.specs.Plain.{Working}
use Rattle.layout.specs.declared.Layout.{Layout}
use Rattle.layout.specs.Layout.{trays, checks}
use Rattle.recover.specs.Recover.{Survivors}
use Rattle.recover_correcting.specs.declared.Recovered.{Recovered}
use Rattle.recover_correcting.specs.RecoverCorrecting.{with_tray, Surviving, CorrectionAnswer}
use Rattle.recover_correcting.proofs.WithTray.{kept_old, kept_other}
use Rattle.recover_correcting.proofs.Settled.{one_wrong_returns}
use Rattle.image.specs.declared.Edition.{Edition}
use Rattle.gather.specs.declared.Gathered.{Gathered}
use Rattle.gather.specs.Gathering.{image_of, is_live, present, gathered_codeword, missing_of, missing_trays, GatherAnswer}
use Rattle.gather.specs.Stored.{ImagesOf, StoredButOne}
use Rattle.gather.specs.Claims.{NamedBack}
use Rattle.gather.proofs.Missing.{missing_same, missing_passes}
use Rattle.gather.proofs.Whole.{gather_facts}
use Rattle.gather.proofs.Present.{list_of}
use Rattle.gather.proofs.Returns.{written_live, written_symbol, gathered_long, gathered_at, kept_present, accepted_then}

module _ {A : Type 0} {f : Field A} (W : Working f) (e : Edition) (of : ImagesOf f e) (l : Layout) (volume : ℕ) (w images : List ℕ)
    (kept : ℕ → Bool) (y : ℕ)
    (s : StoredButOne f e l volume w images kept y) where
  same_set : (x : ℕ) → x < trays l → present e l volume images x ≡ kept x
  unfolding present
  same_set x h = go (kept x) refl (ℕ_discrete x y)
    where
      go : (b : Bool) → kept x ≡ b → Dec (x ≡ y) → is_live e l volume x (image_of e l images x) ≡ kept x
      go false z d = s.replaced x h z ∙ sym z
      go true z (yes q) = subst (λ v. is_live e l volume v (image_of e l images v) ≡ kept v) (sym q) (s.wrong_live ∙ sym s.wrong_kept)
      go true z (no q) = written_live e of.proper l volume s.volume_in w images x x (s.written x h z q) ∙ sym z

  missing_are : missing_trays e l volume images ≡ missing_of kept (trays l)
  unfolding missing_trays
  missing_are = missing_same (present e l volume images) kept (trays l) same_set

  tray : Surviving l (missing_trays e l volume images) y
  unfolding missing_trays
  tray = record {
    inside = s.inside;
    kept = λ k h z. false≢true
        (sym (missing_passes (present e l volume images) (trays l) k h) ∙ ap (present e l volume images) (sym z) ∙ s.wrong_live);
  }

  survivors : Survivors l (with_tray (missing_trays e l volume images) y) (gathered_codeword e l volume images) w
  survivors = record {
    long = s.codeword.long ∙ sym (gathered_long e l volume images);
    same = λ x j hx hj k.
        let p = kept_present e l volume images x hx (kept_old (missing_trays e l volume images) y x k) in
        let q = kept_other (missing_trays e l volume images) y x k in
        sym (gathered_at e l volume images x j hx hj p
        ∙ written_symbol e of.proper l volume s.volume_in w images x x (s.written x hx (sym (same_set x hx) ∙ p) q) j hj);
  }

  -- gathering, and then recovering with one tray corrected, gives back the codeword
  pub corrected_back : (c m d k : List ℕ) (r : Gathered) → GatherAnswer e l volume images c m d k r → r.refusal ≡ 0 →
      (z : List ℕ) (h : Recovered) → CorrectionAnswer f l (take r.count k) d z h →
      NamedBack e l w images z y h
  corrected_back c m d k r g q z h a =
      let list = list_of e l volume images c m d k r g q in
      let adm = (gather_facts e l volume images c m (sym g.answer ∙ q)).0 in
      let b = subst (λ v. CorrectionAnswer f l v (gathered_codeword e l volume images) z h) list
      (subst (λ v. CorrectionAnswer f l (take r.count k) v z h) (g.codeword_is q) a) in
      let few = subst (λ v. length v + 2 ≤ checks l) (sym missing_are) s.few in
      let t = one_wrong_returns f l W (missing_trays e l volume images) (gathered_codeword e l volume images)
      (accepted_then e l volume images f of adm (omega arith)) few y tray w s.codeword survivors z h b in
      record {
        done = t.done;
        word = t.word;
        unnamed = λ v. t.unnamed (λ j hj. v j hj ∙ sym (gathered_at e l volume images y j s.inside hj s.wrong_live));
        named = λ n. t.named (λ v. n (λ j hj. v j hj ∙ gathered_at e l volume images y j s.inside hj s.wrong_live));
      }
