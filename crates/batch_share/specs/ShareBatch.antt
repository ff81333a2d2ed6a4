-- The shares of many codewords: what the call answers and leaves in the buffer.
-- Assumes nothing.
use Rattle.std.specs.Prelude.{◌≡◌, not, ◌&&◌, List, ℕ, ◌*◌, ◌<◌, eqb, ltb, length}
use Rattle.lists.specs.Lists.{unless}
use Rattle.algebra.specs.Shape.{Field}
use Rattle.layout.specs.declared.Layout.{Layout}
use Rattle.layout.specs.Layout.{layers, groups, admissible}
use Rattle.range.specs.Range.{symbols_from}
use Rattle.share.specs.Share.{share_of}
use Rattle.batch_parts.specs.Parts.{part}

module _ {A : Type 0} (f : Field A) (l : Layout) (many host helper : ℕ) (rack : List ℕ) where
  -- the refusal of the shares of so many codewords, given the racks and the length of the room for the shares; 0 for none. The grounds are those of one share
  -- (`share_refusal`), with lengths times many
  unfoldable pub share_batch_refusal : ℕ → ℕ
  share_batch_refusal room =
      unless (admissible f.order l) 1
      (unless (eqb (length rack) (l.size * layers l * many) && eqb room (groups l * many)) 2
      (unless (ltb host l.racks && ltb helper l.racks && symbols_from f rack 0 (length rack)) 3
      (unless (not (eqb host helper)) 6
      0)))

  -- the contract: the buffer is old before and new after, and the number is what the call answers
  pub record ShareBatchAnswer (old new : List ℕ) (number : ℕ) : Type 0 where
    pub answer : number ≡ share_batch_refusal (length old)
    pub unchanged : ¬ (number ≡ 0) → new ≡ old
    pub long : length new ≡ length old
    -- each codeword's share is document 01's
    pub done : number ≡ 0 → (q : ℕ) → q < many → part many q new ≡ share_of f l 0 host (part many q rack)
