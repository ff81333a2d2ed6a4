-- From trays to records: the grounds of the calls, and what the claims of their crates give together. Over any field.
-- Assumes nothing.
use mathlib.Core.Path.{◌≡◌, refl, sym, ap, ◌∙◌}
use mathlib.Core.List.{List}
use Prim.Native.Nat.{ℕ, ◌+◌, ◌*◌}
use borrow.Author.Tests.{ne_eqb}
use lib.ListN.{length, get_or}
use Rattle.algebra.specs.Shape.{Field}
use Rattle.algebra.specs.Plain.{Working}
use Rattle.layout.specs.declared.Layout.{Layout}
use Rattle.layout.specs.Layout.{groups}
use Rattle.recover.specs.Recover.{recover_refusal}
use Rattle.recover_correcting.specs.declared.Recovered.{Recovered}
use Rattle.recover_correcting.specs.declared.Recovered.TheVariants.{Done, Refused}
use Rattle.recover_correcting.specs.declared.RecoveredNumbers.{RecoveredNumbers}
use Rattle.recover_correcting.specs.RecoverCorrecting.{CorrectionAnswer, report as recovered}
use Rattle.recover_correcting.proofs.Claims.{correction_claims}
use Rattle.test_kept.specs.declared.Kept.{Kept}
use Rattle.test_kept.specs.declared.Kept.TheVariants.{Sound, Bad, Refused as NotTested}
use Rattle.test_kept.specs.declared.KeptNumbers.{KeptNumbers}
use Rattle.test_kept.specs.TestKept.{KeptAnswer, report as kept}
use Rattle.test_kept.proofs.Claims.{kept_claims}
use Rattle.repair.specs.declared.Repaired.{Repaired}
use Rattle.repair.specs.Repair.{RepairAnswer}
use Rattle.image.specs.declared.Edition.{Edition}
use Rattle.gather.specs.Gathering.{states_refusal, states_buffer, rack_refusal, rack_buffer}
use Rattle.gather.specs.Stored.{ImagesOf, SamePresent}
use Rattle.records.specs.Records.{FromImages, Records}
use Rattle.records.proofs.Records.{records}
use Rattle.checksum.proofs.Claims.{checksum_claims}
use Rattle.claims.specs.Words.{Refuses, GroupsAlike}
use Rattle.claims.specs.Looks.{Looks}
use Rattle.claims.specs.TraysToRecords.{TraysToRecords}

module _ {A : Type 0} (f : Field A) (l : Layout) (es c : List ℕ) where
  abbrev reason : ℕ
  reason = recover_refusal f l es c

  abbrev no_tray : ℕ → RecoveredNumbers
  no_tray n = record { refusal = n; tray = 0; checks = 0 }

  abbrev no_verdict : ℕ → KeptNumbers
  no_verdict n = record { refusal = n; verdict = 0; layer = 0; checks = 0 }

  correct_grounds : (d : List ℕ) (r : Recovered) → CorrectionAnswer f l es c d r → (Refuses reason → recovered r ≡ no_tray reason) × (Refuses (recovered r).refusal → d ≡ c)
  correct_grounds d (Done tray left) a = (λ n. absurd (n a.accepted), λ n. absurd (n refl))
  correct_grounds d (Refused e) a = (λ n. ap no_tray (a.refused n), λ n. a.kept)

  kept_grounds : (r : Kept) → KeptAnswer f l es c r → Refuses reason → kept r ≡ no_verdict reason
  kept_grounds (Sound left) a n = absurd (n a.0)
  kept_grounds (Bad j left) a n = absurd (n a.0)
  kept_grounds (NotTested e) a n = ap no_verdict a.0

module _ (ed : Edition) (l : Layout) (volume : ℕ) where
  states_grounds : (images states : List ℕ) → Refuses (states_refusal ed l (length images) (length states)) → states_buffer ed l volume images states ≡ states
  unfolding states_buffer
  states_grounds images states n = simp (ne_eqb (states_refusal ed l (length images) (length states)) 0 n)

  rack_grounds_lem : (rack : ℕ) (lost images out : List ℕ) → Refuses (rack_refusal ed l volume rack lost images (length out)) → rack_buffer ed l volume rack lost images out ≡ out
  unfolding rack_buffer
  rack_grounds_lem rack lost images out n = simp (ne_eqb (rack_refusal ed l volume rack lost images (length out)) 0 n)

-- two repairs from images with the same trays present look at the same symbols
repaired : {A : Type 0} {f : Field A} {ed : Edition} {l : Layout} → Looks f l → Records f ed l → (volume : ℕ) (images images' : List ℕ) → SamePresent ed l volume images images' →
    (lost helpers shares shares' host host' : List ℕ) → FromImages f ed l volume images lost helpers shares host → FromImages f ed l volume images' lost helpers shares' host' →
    (first budget : ℕ) (old new new' : List ℕ) (r r' : Repaired) → RepairAnswer f l lost helpers shares host first budget old new r →
    RepairAnswer f l lost helpers shares' host' first budget old new' r' → (r ≡ r') × (new ≡ new')
repaired {l = l} looks R volume images images' same lost helpers shares shares' host host' one other first budget =
    let given = R.given_same volume images images' same lost helpers shares shares' host host' one other in
    looks.piece lost helpers shares shares' host host' first budget (record {
      shares_long = ap length given.0;
      host_long = given.1;
      sent = λ i p _ _ _. ap (λ xs. get_or xs (i * groups l + p) 0) given.0;
      sound = λ g j g-in j-in _ _ kept. given.2 g j g-in j-in kept;
    })

pub trays_to_records : {A : Type 0} {f : Field A} (W : Working f) (ed : Edition) → ImagesOf f ed → (l : Layout) → Looks f l → TraysToRecords f ed l
trays_to_records {f = f} W ed of_field l looks =
    let C = correction_claims W in
    let K = kept_claims W in
    let R = records W ed of_field l in
    record {
      correct_grounds = correct_grounds f l;
      kept_grounds = kept_grounds f l;
      gather_grounds = λ volume images c m d k r a. (a.answer, λ n. a.unchanged (λ z. n (sym a.answer ∙ z)));
      states_grounds = states_grounds ed l;
      rack_grounds_lem = rack_grounds_lem ed l;
      recovered_handed = λ es c d n s d' r p. let one = C.0 l es c d d' s.answer r s.right p in (s.shown ∙ ap recovered one.0, one.1);
      kept_handed = λ es c n s r p. s.shown ∙ ap kept (K.0 l es c s.answer r s.right p);
      correct_unread = C.1;
      correct_eight = C.2;
      one_wrong = C.4;
      none_wrong = C.5;
      two_wrong = C.6;
      two_refused = C.7;
      kept_unread = K.1;
      kept_recover = K.2;
      kept_sound = K.3;
      kept_test = K.4;
      nothing_tested = K.5;
      records = R;
      repaired = repaired looks R;
      checksum_remains = checksum_claims.0;
      remainder_unique = checksum_claims.1;
      checksum_parts = checksum_claims.2;
      checksum_digits = checksum_claims.3;
    }
