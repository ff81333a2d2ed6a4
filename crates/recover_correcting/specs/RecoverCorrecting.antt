-- Recovering erased trays where one more may be wrong, over any field: what the call answers and leaves in the buffer.
-- Assumes nothing.
use Rattle.std.specs.Prelude.{◌≡◌, List, [], ◌∷◌, ◌++◌, ℕ, ◌+◌, ◌-◌, ◌<◌, ◌≤◌, length, get_or}
use Rattle.algebra.specs.Shape.{Field}
use Rattle.layout.specs.declared.Layout.{Layout}
use Rattle.layout.specs.Layout.{trays, checks}
use Rattle.codeword.specs.Codeword.{Codeword}
use Rattle.recover.specs.Recover.{recover_refusal, Survivors, Restores}
use Rattle.recover_correcting.specs.declared.Recovered.{Recovered}
use Rattle.recover_correcting.specs.declared.RecoveredNumbers.{RecoveredNumbers}
use Rattle.recover_correcting.specs.declared.Recovered.TheVariants.{Done, Refused}

-- the list with tray x besides
unfoldable pub with_tray : List ℕ → ℕ → List ℕ
with_tray es x = es ++ (x ∷ [])

-- the numbers of each answer: the refusal (0 for none), the tray named (n for none), and the checks left over; with a refusal the others
-- are 0
abbrev pub report : Recovered → RecoveredNumbers
report (Done tray left) = record { refusal = 0; tray = tray; checks = left }
report (Refused e) = record { refusal = e; tray = 0; checks = 0 }

-- a tray of the layout that is not in the list
pub record Surviving (l : Layout) (es : List ℕ) (x : ℕ) : Type 0 where
  pub inside : x < trays l
  pub kept : (k : ℕ) → k < length es → ¬ (x ≡ get_or es k 0)

module _ {A : Type 0} (f : Field A) (l : Layout) where
  -- no codeword is alike with c outside the trays listed
  abbrev pub NoCodeword : List ℕ → List ℕ → Type 0
  NoCodeword es c = (e : List ℕ) → Codeword f l e → Survivors l es c e → ⊥

  module _ (es c : List ℕ) where
    -- no codeword has all survivors, two checks or more are left over, and d is the one codeword that has the survivors but tray x
    pub record Corrects (d : List ℕ) (x : ℕ) : Type 0 where
      pub few : length es + 2 ≤ checks l
      pub none : NoCodeword es c
      pub tray : Surviving l es x
      pub restores : Restores f l (with_tray es x) c d

    -- refusal 8: no codeword has all survivors; and none has them but for one tray, or fewer than two checks are left over
    pub record NotCorrectable : Type 0 where
      pub none : NoCodeword es c
      pub without : length es + 2 ≤ checks l → (x : ℕ) → Surviving l es x → NoCodeword (with_tray es x) c

    -- a call that is done: the buffer becomes d
    pub record CorrectionDone (d : List ℕ) (n : RecoveredNumbers) : Type 0 where
      pub accepted : recover_refusal f l es c ≡ 0
      pub checks_are : n.checks ≡ checks l - length es
      pub sound : n.tray ≡ trays l → Restores f l es c d
      pub named : ¬ (n.tray ≡ trays l) → Corrects d n.tray

    -- a call that is refused: the grounds of a recovery, 8 last; no symbol changed
    pub record CorrectionRefused (d : List ℕ) (n : RecoveredNumbers) : Type 0 where
      pub reason : 0 < n.refusal
      pub refused : ¬ (recover_refusal f l es c ≡ 0) → n.refusal ≡ recover_refusal f l es c
      pub last : recover_refusal f l es c ≡ 0 → (n.refusal ≡ 8) × NotCorrectable
      pub kept : d ≡ c

-- the contract of the call: the buffer is c before and d after
abbrev pub CorrectionAnswer : {A : Type 0} → Field A → Layout → List ℕ → List ℕ → List ℕ → Recovered → Type 0
CorrectionAnswer f l es c d (Done tray left) = CorrectionDone f l es c d (report (Done tray left))
CorrectionAnswer f l es c d (Refused e) = CorrectionRefused f l es c d (report (Refused e))
