-- Storing in the box.
-- Assumes nothing.
use Rattle.std.specs.Prelude.{cond, ◌&&◌, List, ℕ, eqb, length}
use Rattle.lists.specs.Lists.{unless, all_below}
use Rattle.box_words.specs.Box.{alphabet, trays, dimension, word_of}

-- the refusal of storing the data, given the length of the buffer for the word; 0 for none
unfoldable pub store_refusal : List ℕ → ℕ → ℕ
store_refusal given room =
    unless (eqb (length given) dimension && eqb room trays) 2
    (unless (all_below given alphabet) 3
    0)

-- what the buffer holds after the call
unfoldable pub store_buffer : List ℕ → List ℕ → List ℕ
store_buffer given out = cond (eqb (store_refusal given (length out)) 0) (word_of given) out
