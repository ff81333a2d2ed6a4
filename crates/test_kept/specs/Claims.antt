-- What is claimed of testing with trays missing, over any field. Proved in proofs/Claims.antt.
-- Assumes nothing.
use Rattle.std.specs.Prelude.{◌≡◌, List, [], ◌↔◌, ℕ, length}
use Rattle.algebra.specs.Shape.{Field}
use Rattle.layout.specs.declared.Layout.{Layout}
use Rattle.layout.specs.Layout.{checks}
use Rattle.codeword.specs.declared.Tested.{Tested}
use Rattle.codeword.specs.declared.Tested.TheVariants.{Sound as TestSound, Bad as TestBad, Refused as TestRefused}
use Rattle.codeword.specs.Codeword.{Codeword}
use Rattle.codeword.specs.Test.{TestAnswer}
use Rattle.recover.specs.Recover.{recover_refusal, Survivors, RecoverAnswer}
use Rattle.test_kept.specs.declared.Kept.{Kept}
use Rattle.test_kept.specs.declared.Kept.TheVariants.{Sound, Bad, Refused}
use Rattle.test_kept.specs.TestKept.{report, KeptAnswer}

-- the answer of a test of all trays as one of this call, with so many checks
abbrev pub as_kept : ℕ → Tested → Kept
as_kept r TestSound = Sound r
as_kept r (TestBad j t) = Bad j r
as_kept r (TestRefused e) = Refused e

-- the answer to a test is what a recovery answers: sound where it is done, bad where it answers 8, refused with the same number
pub record AsRecover (r : Kept) (number : ℕ) : Type 0 where
  pub sound : ((report r).verdict ≡ 1) ↔ (number ≡ 0)
  pub bad : ((report r).verdict ≡ 2) ↔ (number ≡ 8)
  pub refused : ¬ ((report r).refusal ≡ 0) → (report r).refusal ≡ number

module _ {A : Type 0} (f : Field A) where
  -- the contract settles the answer
  abbrev pub KeptSettled : Type 0
  KeptSettled = (l : Layout) (es c : List ℕ) (r r' : Kept) → KeptAnswer f l es c r → KeptAnswer f l es c r' → r ≡ r'

  -- the old symbols of the trays erased have no effect
  abbrev pub KeptNeverLooks : Type 0
  KeptNeverLooks = (l : Layout) (es c c' : List ℕ) (r r' : Kept) → Survivors l es c c' → KeptAnswer f l es c r → KeptAnswer f l es c' r' →
      r ≡ r'

  -- it says what a recovery of the same trays would answer
  abbrev pub KeptAsRecover : Type 0
  KeptAsRecover = (l : Layout) (es c d : List ℕ) (number : ℕ) (r : Kept) → RecoverAnswer f l es c d number → KeptAnswer f l es c r →
      AsRecover r number

  -- past the first grounds it is sound exactly when a codeword has the survivors
  abbrev pub KeptSound : Type 0
  KeptSound =
      (l : Layout) (es c : List ℕ) (r : Kept) → recover_refusal f l es c ≡ 0 → KeptAnswer f l es c r
      → ((report r).verdict ≡ 1) ↔ ((w : List ℕ) × (Codeword f l w × Survivors l es c w))

  -- with none listed it is the test of all trays
  abbrev pub KeptAsTest : Type 0
  KeptAsTest = (l : Layout) (c : List ℕ) (t : Tested) (r : Kept) → TestAnswer f l c t → KeptAnswer f l [] c r → r ≡ as_kept (checks l) t

  -- with as many trays erased as there are checks nothing is tested, and the answer says so
  abbrev pub NothingTested : Type 0
  NothingTested = (l : Layout) (es c : List ℕ) (r : Kept) → recover_refusal f l es c ≡ 0 → length es ≡ checks l → KeptAnswer f l es c r →
      r ≡ Sound 0

  abbrev pub KeptClaims : Type 0
  KeptClaims = KeptSettled × KeptNeverLooks × KeptAsRecover × KeptSound × KeptAsTest × NothingTested
