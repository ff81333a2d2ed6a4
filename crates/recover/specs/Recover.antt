-- Recovering erased trays: what the call answers and leaves in the buffer.
-- Assumes nothing.
use Rattle.std.specs.Prelude.{◌≡◌, Bool, true, cond, ◌&&◌, List, ℕ, ◌+◌, ◌*◌, ◌<◌, eqb, leb, length, get_or}
use Rattle.lists.specs.Lists.{unless, all, absent, all_below, strictly_rising}
use Rattle.algebra.specs.Shape.{Field}
use Rattle.layout.specs.declared.Layout.{Layout}
use Rattle.layout.specs.Layout.{trays, checks, layers, admissible}
use Rattle.range.specs.Range.{symbols_from}
use Rattle.codeword.specs.Codeword.{Codeword}

-- every number of the trays that are not listed is a symbol
unfoldable pub kept_symbols : {A : Type 0} → Field A → Layout → List ℕ → List ℕ → Bool
kept_symbols f l es c = all (λ x. cond (absent es x) (symbols_from f c (x * layers l) (layers l)) true) (trays l)

-- the refusal of a recovery before the checks of the survivors are looked at, given the list of erased trays and the buffer; 0 for none
unfoldable pub recover_refusal : {A : Type 0} → Field A → Layout → List ℕ → List ℕ → ℕ
recover_refusal f l es c =
    unless (admissible f.order l) 1
    (unless (eqb (length c) (trays l * layers l)) 2
    (unless (all_below es (trays l) && kept_symbols f l es c) 3
    (unless (strictly_rising es) 4
    (unless (leb (length es) (checks l)) 5
    0))))

-- d has the survivors of c: it is as long and alike outside the trays listed
pub record Survivors (l : Layout) (es c d : List ℕ) : Type 0 where
  pub long : length d ≡ length c
  pub same : (x j : ℕ) → x < trays l → j < layers l → ((k : ℕ) → k < length es → ¬ (x ≡ get_or es k 0)) → get_or d (x * layers l + j) 0 ≡ get_or c (x * layers l + j) 0

module _ {A : Type 0} (f : Field A) (l : Layout) (es c d : List ℕ) where
  -- d is the one codeword that has the survivors of c
  pub record Restores : Type 0 where
    pub codeword : Codeword f l d
    pub survivors : Survivors l es c d
    pub only : (e : List ℕ) → Codeword f l e → Survivors l es c e → e ≡ d

  -- the contract of a recovery: the buffer is c before and d after, and the number is what it answers
  pub record RecoverAnswer (number : ℕ) : Type 0 where
    pub refused : ¬ (recover_refusal f l es c ≡ 0) → number ≡ recover_refusal f l es c
    pub answers : recover_refusal f l es c ≡ 0 → ¬ (number ≡ 0) → number ≡ 8
    pub unchanged : ¬ (number ≡ 0) → d ≡ c
    pub done : number ≡ 0 → Restores
    pub none : number ≡ 8 → (e : List ℕ) → Codeword f l e → Survivors l es c e → ⊥
