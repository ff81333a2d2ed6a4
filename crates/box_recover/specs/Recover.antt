-- Recovering erased trays of the box, and giving its data back: what the calls answer and leave in the buffers.
-- Assumes nothing.
use Rattle.std.specs.Prelude.{◌≡◌, Bool, not, ◌&&◌, ◌||◌, List, ℕ, ◌<◌, eqb, ltb, leb, length, get_or}
use Rattle.lists.specs.Lists.{all, unless, all_below, strictly_rising, absent}
use Rattle.box_words.specs.Box.{alphabet, trays, dimension, erasable, Data, word_of, Word}

-- the values of the trays that are not listed are symbols; those of the trays listed are not looked at
unfoldable pub survivors_below : List ℕ → List ℕ → Bool
survivors_below es c = all (λ x. not (absent es x) || ltb (get_or c x 0) alphabet) trays

-- the grounds that the list of erased trays and the values give, 0 for none
unfoldable pub list_refusal : List ℕ → List ℕ → ℕ
list_refusal es c =
    unless (all_below es trays && survivors_below es c) 3
    (unless (strictly_rising es) 4
    (unless (leb (length es) erasable) 5
    0))

-- the refusal of a recovery before the survivors are compared; 0 for none
unfoldable pub recover_refusal : List ℕ → List ℕ → ℕ
recover_refusal es c = unless (eqb (length c) trays) 2 (list_refusal es c)

-- the same for the data, given the length of the buffer for them
unfoldable pub data_refusal : List ℕ → List ℕ → ℕ → ℕ
data_refusal es c room = unless (eqb (length c) trays && eqb room dimension) 2 (list_refusal es c)

-- tray x is not in the list
abbrev pub Kept : List ℕ → ℕ → Type 0
Kept es x = (k : ℕ) → k < length es → ¬ (x ≡ get_or es k 0)

-- d has the survivors of c: it is as long and alike outside the trays listed
pub record Survivors (es c d : List ℕ) : Type 0 where
  pub long : length d ≡ length c
  pub same : (x : ℕ) → x < trays → Kept es x → get_or d x 0 ≡ get_or c x 0

module _ (es c : List ℕ) where
  -- d is the one word that has the survivors of c
  pub record Restores (d : List ℕ) : Type 0 where
    pub word : Word d
    pub survivors : Survivors es c d
    pub only : (e : List ℕ) → Word e → Survivors es c e → e ≡ d

  -- the contract of a recovery: the buffer is c before and d after, and the number is what it answers
  pub record RecoverAnswer (d : List ℕ) (number : ℕ) : Type 0 where
    pub refused : ¬ (recover_refusal es c ≡ 0) → number ≡ recover_refusal es c
    pub answers : recover_refusal es c ≡ 0 → ¬ (number ≡ 0) → number ≡ 8
    pub unchanged : ¬ (number ≡ 0) → d ≡ c
    pub done : number ≡ 0 → Restores d
    pub none : number ≡ 8 → (e : List ℕ) → Word e → Survivors es c e → ⊥

  -- d is the only data whose word has the survivors of c
  pub record Gives (d : List ℕ) : Type 0 where
    pub given : Data d
    pub survivors : Survivors es c (word_of d)
    pub only : (e : List ℕ) → Data e → Survivors es c (word_of e) → e ≡ d

  -- the contract of giving the data: the buffer for them is old before and new after, and the number is what it answers
  pub record DataAnswer (old new : List ℕ) (number : ℕ) : Type 0 where
    pub refused : ¬ (data_refusal es c (length old) ≡ 0) → number ≡ data_refusal es c (length old)
    pub answers : data_refusal es c (length old) ≡ 0 → ¬ (number ≡ 0) → number ≡ 8
    pub unchanged : ¬ (number ≡ 0) → new ≡ old
    pub done : number ≡ 0 → Gives new
    pub none : number ≡ 8 → (e : List ℕ) → Data e → Survivors es c (word_of e) → ⊥
