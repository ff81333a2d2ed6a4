-- What is claimed of recovering with one wrong tray, over any field. Proved in proofs/Claims.antt.
-- Assumes nothing.
use Rattle.std.specs.Prelude.{◌≡◌, List, ◌↔◌, ℕ, ◌+◌, ◌*◌, ◌<◌, ◌≤◌, length, get_or}
use Rattle.algebra.specs.Shape.{Field}
use Rattle.layout.specs.declared.Layout.{Layout}
use Rattle.layout.specs.Layout.{trays, checks, layers}
use Rattle.codeword.specs.Codeword.{Codeword}
use Rattle.recover.specs.Recover.{recover_refusal, Survivors}
use Rattle.recover_correcting.specs.declared.Recovered.{Recovered}
use Rattle.recover_correcting.specs.RecoverCorrecting.{with_tray, report, Surviving, NotCorrectable, CorrectionAnswer}

-- in tray x the buffer c has the symbols of w
abbrev pub SameTray : Layout → List ℕ → List ℕ → ℕ → Type 0
SameTray l c w x = (j : ℕ) → j < layers l → get_or w (x * layers l + j) 0 ≡ get_or c (x * layers l + j) 0

-- the buffer is the codeword w, and tray y is named exactly when a symbol of it was not w's; n where none is named
pub record Returned (l : Layout) (c w d : List ℕ) (y : ℕ) (r : Recovered) : Type 0 where
  pub done : (report r).refusal ≡ 0
  pub word : d ≡ w
  pub unnamed : SameTray l c w y → (report r).tray ≡ trays l
  pub named : ¬ SameTray l c w y → (report r).tray ≡ y

-- the buffer is the codeword w; a surviving tray with a symbol that was not w's is named, n where there is none, and no other tray is named
pub record WrongNamed (l : Layout) (es c w d : List ℕ) (r : Recovered) : Type 0 where
  pub done : (report r).refusal ≡ 0
  pub word : d ≡ w
  pub wrong : (x : ℕ) → Surviving l es x → ¬ SameTray l c w x → (report r).tray ≡ x
  pub none : ((x : ℕ) → Surviving l es x → SameTray l c w x) → (report r).tray ≡ trays l
  pub no_other : ¬ ((report r).tray ≡ trays l) → Surviving l es (report r).tray × ¬ SameTray l c w (report r).tray

module _ {A : Type 0} (f : Field A) where
  -- the contract settles the answer and every byte
  abbrev pub CorrectionSettled : Type 0
  CorrectionSettled = (l : Layout) (es c d d' : List ℕ) (r r' : Recovered) → CorrectionAnswer f l es c d r → CorrectionAnswer f l es c d'
      r' → (r ≡ r') × (d ≡ d')

  -- the old bytes of the trays erased are never looked at
  abbrev pub CorrectionNeverLooks : Type 0
  CorrectionNeverLooks =
      (l : Layout) (es c c' d d' : List ℕ) (r r' : Recovered) → Survivors l es c c' → CorrectionAnswer f l es c d r →
      CorrectionAnswer f l es c' d' r'
      → (r ≡ r') × ((report r).refusal ≡ 0 → d ≡ d')

  -- past the first grounds the answer is 8 exactly when nothing fits
  abbrev pub CorrectionEight : Type 0
  CorrectionEight =
      (l : Layout) (es c d : List ℕ) (r : Recovered) → recover_refusal f l es c ≡ 0 → CorrectionAnswer f l es c d r →
      ((report r).refusal ≡ 8) ↔ NotCorrectable f l es c

  -- a codeword comes back though one tray more than those erased was changed, in any of its symbols, each still one of the field, and
  -- that tray is named; two checks are
  -- left over for it
  abbrev pub OneWrongReturns : Type 0
  OneWrongReturns =
      (l : Layout) (es c d w : List ℕ) (y : ℕ) (r : Recovered) → recover_refusal f l es c ≡ 0 → length es + 2 ≤ checks l
      → Surviving l es y → Codeword f l w → Survivors l (with_tray es y) c w → CorrectionAnswer f l es c d r → Returned l c w d y r

  -- the same with no tray given: at most one surviving tray differs from the codeword in any of its symbols
  abbrev pub AtMostOneWrong : Type 0
  AtMostOneWrong =
      (l : Layout) (es c d w : List ℕ) (r : Recovered) → recover_refusal f l es c ≡ 0 → length es + 2 ≤ checks l → Codeword f l w
      → ((x y : ℕ) → Surviving l es x → Surviving l es y → ¬ SameTray l c w x → ¬ SameTray l c w y → x ≡ y) → CorrectionAnswer f l es c d
      r → WrongNamed l es c w d r

  -- where no surviving tray differs from the codeword it comes back with none named, however few checks are left over
  abbrev pub NoneWrongReturns : Type 0
  NoneWrongReturns =
      (l : Layout) (es c d w : List ℕ) (r : Recovered) → recover_refusal f l es c ≡ 0 → Codeword f l w →
      ((x : ℕ) → Surviving l es x → SameTray l c w x)
      → CorrectionAnswer f l es c d r → ((report r).refusal ≡ 0) × (d ≡ w) × ((report r).tray ≡ trays l)

  -- with three checks left over two wrong trays are never taken for another one: whatever is done is right, though two trays may differ
  -- from the codeword
  abbrev pub TwoWrongSafe : Type 0
  TwoWrongSafe =
      (l : Layout) (es c d w : List ℕ) (y z : ℕ) (r : Recovered) → recover_refusal f l es c ≡ 0 → length es + 3 ≤ checks l
      → Surviving l es y → Surviving l (with_tray es y) z → Codeword f l w → Survivors l (with_tray (with_tray es y) z) c w
      → CorrectionAnswer f l es c d r → (report r).refusal ≡ 0 → d ≡ w

  -- and where two do differ, and no third, the answer is 8 and the buffer stays
  abbrev pub TwoWrongRefused : Type 0
  TwoWrongRefused =
      (l : Layout) (es c d w : List ℕ) (y z : ℕ) (r : Recovered) → recover_refusal f l es c ≡ 0 → length es + 3 ≤ checks l → Codeword f l w
      → Surviving l es y → Surviving l es z → ¬ (y ≡ z) → ¬ SameTray l c w y → ¬ SameTray l c w z
      → ((x : ℕ) → Surviving l es x → ¬ (x ≡ y) → ¬ (x ≡ z) → SameTray l c w x)
      → CorrectionAnswer f l es c d r → ((report r).refusal ≡ 8) × (d ≡ c)

  abbrev pub CorrectionClaims : Type 0
  CorrectionClaims =
      CorrectionSettled × CorrectionNeverLooks × CorrectionEight × OneWrongReturns × AtMostOneWrong × NoneWrongReturns × TwoWrongSafe ×
      TwoWrongRefused
