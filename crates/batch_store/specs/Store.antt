-- Storing many codewords interleaved: what the call answers and leaves in the buffer.
-- Assumes nothing.
use Rattle.std.specs.Prelude.{◌≡◌, ◌&&◌, List, ℕ, ◌*◌, ◌<◌, eqb, length}
use Rattle.lists.specs.Lists.{unless}
use Rattle.algebra.specs.Shape.{Field}
use Rattle.layout.specs.declared.Layout.{Layout}
use Rattle.layout.specs.Layout.{trays, layers, admissible}
use Rattle.range.specs.Range.{symbols_from}
use Rattle.batch_parts.specs.Parts.{part}
use Rattle.store.specs.Store.{StoreAnswer}

-- the refusal of storing m codewords, given the data and the length of the buffer for the codewords; 0 for none
unfoldable pub batch_store_refusal : {A : Type 0} → Field A → Layout → ℕ → List ℕ → ℕ → ℕ
batch_store_refusal f l m given room =
    unless (admissible f.order l) 1
    (unless (eqb (length given) (l.dimension * layers l * m) && eqb room (trays l * layers l * m)) 2
    (unless (symbols_from f given 0 (length given)) 3
    0))

-- the contract: the buffer is c before and d after, and the number is what it answers
pub record BatchStoreAnswer {A : Type 0} (f : Field A) (l : Layout) (m : ℕ) (given c d : List ℕ) (number : ℕ) : Type 0 where
  pub answer : number ≡ batch_store_refusal f l m given (length c)
  pub unchanged : ¬ (number ≡ 0) → d ≡ c
  pub long : length d ≡ length c
  pub done : number ≡ 0 → (q : ℕ) → q < m → StoreAnswer f l (part m q given) (part m q c) (part m q d) 0
