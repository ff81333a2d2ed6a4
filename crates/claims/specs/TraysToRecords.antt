-- FROM TRAYS TO RECORDS, over any field f and the edition ed of its images: which trays are good, which may be mixed and what "sound" was held against are decided
-- by calls, and the claims reach from the bytes on the trays to the symbols handed out. What is claimed of images is in gather/specs/Claims.antt and
-- records/specs/Records.antt, of a correcting recovery, of a test with trays missing and of the checksum in specs/Claims.antt of their crates.
-- Assumes nothing.
use Rattle.std.specs.Prelude.{◌≡◌, List, ℕ, length}
use Rattle.algebra.specs.Shape.{Field}
use Rattle.layout.specs.declared.Layout.{Layout}
use Rattle.recover.specs.Recover.{recover_refusal}
use Rattle.recover_correcting.specs.declared.Recovered.{Recovered}
use Rattle.recover_correcting.specs.declared.RecoveredNumbers.{RecoveredNumbers}
use Rattle.recover_correcting.specs.RecoverCorrecting.{CorrectionAnswer, report as recovered}
use Rattle.recover_correcting.specs.Claims.{CorrectionNeverLooks, CorrectionEight, AtMostOneWrong, NoneWrongReturns, TwoWrongSafe, TwoWrongRefused}
use Rattle.test_kept.specs.declared.Kept.{Kept}
use Rattle.test_kept.specs.declared.KeptNumbers.{KeptNumbers}
use Rattle.test_kept.specs.TestKept.{KeptAnswer, report as kept}
use Rattle.test_kept.specs.Claims.{KeptNeverLooks, KeptAsRecover, KeptSound, KeptAsTest, NothingTested}
use Rattle.repair.specs.declared.Repaired.{Repaired}
use Rattle.repair.specs.Repair.{RepairAnswer}
use Rattle.image.specs.declared.Edition.{Edition}
use Rattle.gather.specs.declared.Gathered.{Gathered}
use Rattle.gather.specs.Gathering.{gather_refusal, GatherAnswer, states_refusal, states_buffer, rack_refusal, rack_buffer}
use Rattle.gather.specs.Stored.{SamePresent}
use Rattle.records.specs.Records.{FromImages, Records}
use Rattle.checksum.specs.Claims.{ChecksumRemains, RemainderUnique, ChecksumInParts, ChecksumOfDigits}
use Rattle.gesarumbo.specs.Boundary.{Shown}
use Rattle.claims.specs.Words.{Refuses}

pub record TraysToRecords {A : Type 0} (f : Field A) (ed : Edition) (l : Layout) : Type 0 where
  -- a refusal gives the first ground that applies, every other number zero, and changes nothing that was lent
  pub correct_grounds : (es c d : List ℕ) (r : Recovered) → CorrectionAnswer f l es c d r → let reason = recover_refusal f l es c in
      (Refuses reason → recovered r ≡ record { refusal = reason; tray = 0; checks = 0 }) × (Refuses (recovered r).refusal → d ≡ c)
  pub kept_grounds : (es c : List ℕ) (r : Kept) → KeptAnswer f l es c r → let reason = recover_refusal f l es c in
      Refuses reason → kept r ≡ record { refusal = reason; verdict = 0; layer = 0; checks = 0 }
  pub gather_grounds : (volume : ℕ) (images c m d k : List ℕ) (r : Gathered) → GatherAnswer ed l volume images c m d k r →
      let reason = gather_refusal ed l (length images) (length c) (length m) in
      (r.refusal ≡ reason) × (Refuses reason → (r.count ≡ 0) × (d ≡ c) × (k ≡ m))
  pub states_grounds : (volume : ℕ) (images states : List ℕ) → Refuses (states_refusal ed l (length images) (length states)) →
      states_buffer ed l volume images states ≡ states
  pub rack_grounds_lem : (volume rack : ℕ) (lost images out : List ℕ) → Refuses (rack_refusal ed l volume rack lost images (length out)) →
      rack_buffer ed l volume rack lost images out ≡ out
  -- the numbers that C is handed are those of the one answer that the contract allows
  pub recovered_handed : (es c d : List ℕ) (n : RecoveredNumbers) → Shown (CorrectionAnswer f l es c d) recovered n →
      (d' : List ℕ) (r : Recovered) → CorrectionAnswer f l es c d' r → (n ≡ recovered r) × (d ≡ d')
  pub kept_handed : (es c : List ℕ) (n : KeptNumbers) → Shown (KeptAnswer f l es c) kept n → (r : Kept) → KeptAnswer f l es c r → n ≡ kept r
  -- errors and erasures: one wrong tray besides those erased is corrected and named, and two are never taken for another one
  pub correct_unread : CorrectionNeverLooks f
  pub correct_eight : CorrectionEight f
  pub one_wrong : AtMostOneWrong f
  pub none_wrong : NoneWrongReturns f
  pub two_wrong : TwoWrongSafe f
  pub two_refused : TwoWrongRefused f
  -- a test with trays missing says what a recovery would find; where nothing is left to test with it says that
  pub kept_unread : KeptNeverLooks f
  pub kept_recover : KeptAsRecover f
  pub kept_sound : KeptSound f
  pub kept_test : KeptAsTest f
  pub nothing_tested : NothingTested f
  -- images to buffers, and the accident that must not be repeated
  pub records : Records f ed l
  -- and of a repair from images: nothing that stands at another place than a live image of this layout, volume and place has any effect, whatever the rooms held
  pub repaired : (volume : ℕ) (images images' : List ℕ) → SamePresent ed l volume images images' → (lost helpers shares shares' host host' : List ℕ) →
      FromImages f ed l volume images lost helpers shares host → FromImages f ed l volume images' lost helpers shares' host' →
      (first budget : ℕ) (old new new' : List ℕ) (r r' : Repaired) → RepairAnswer f l lost helpers shares host first budget old new r →
      RepairAnswer f l lost helpers shares' host' first budget old new' r' → (r ≡ r') × (new ≡ new')
  -- the checksum is a remainder, and the same in parts as in one go
  pub checksum_remains : ChecksumRemains
  pub remainder_unique : RemainderUnique
  pub checksum_parts : ChecksumInParts
  pub checksum_digits : ChecksumOfDigits
