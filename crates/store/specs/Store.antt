-- Storing: the one codeword whose first k trays are the data.
-- Assumes nothing.
use Rattle.std.specs.Prelude.{◌≡◌, ◌&&◌, List, ℕ, ◌*◌, ◌<◌, eqb, length, get_or}
use Rattle.lists.specs.Lists.{unless}
use Rattle.algebra.specs.Shape.{Field}
use Rattle.layout.specs.declared.Layout.{Layout}
use Rattle.layout.specs.Layout.{trays, layers, admissible}
use Rattle.range.specs.Range.{symbols_from}
use Rattle.codeword.specs.Codeword.{Codeword}

-- the refusal of storing, given the data and the length of the buffer for the codeword; 0 for none. Ground 3 is a number that stands for no symbol, which no byte is
unfoldable pub store_refusal : {A : Type 0} → Field A → Layout → List ℕ → ℕ → ℕ
store_refusal f l given room =
    unless (admissible f.order l) 1
    (unless (eqb (length given) (l.dimension * layers l) && eqb room (trays l * layers l)) 2
    (unless (symbols_from f given 0 (length given)) 3
    0))

-- d begins with the data: its first k trays, tray after tray
pub record Begins (given d : List ℕ) : Type 0 where
  pub at : (i : ℕ) → i < length given → get_or d i 0 ≡ get_or given i 0

-- d is the one codeword that begins with the data
pub record Stores {A : Type 0} (f : Field A) (l : Layout) (given d : List ℕ) : Type 0 where
  pub codeword : Codeword f l d
  pub begins : Begins given d
  pub only : (e : List ℕ) → Codeword f l e → Begins given e → e ≡ d

-- the contract of storing: the buffer is c before and d after, and the number is what it answers
pub record StoreAnswer {A : Type 0} (f : Field A) (l : Layout) (given c d : List ℕ) (number : ℕ) : Type 0 where
  pub answer : number ≡ store_refusal f l given (length c)
  pub unchanged : ¬ (number ≡ 0) → d ≡ c
  pub done : number ≡ 0 → Stores f l given d
