-- The repair of one lost tray of the box from the shares of two other racks.
-- Assumes nothing.
use Rattle.std.specs.Prelude.{◌≡◌, Bool, cond, ◌&&◌, ◌||◌, List, [], ◌∷◌, ℕ, ◌+◌, ◌*◌, ◌/◌, ◌%◌, ◌<◌, eqb, ltb, length, get_or, set}
use Rattle.lists.specs.Lists.{all, unless, all_below, strictly_rising, absent}
use Rattle.box_words.specs.Box.{alphabet, trays, racks, size, helpers, Word}
use Rattle.box_repair.specs.Share.{rack_of, Top}
use Rattle.box_repair.specs.declared.Repaired.{Repaired}

-- the host rack's values are symbols, but for that at the lost tray's place, which is not looked at
unfoldable pub others_below : ℕ → List ℕ → Bool
others_below place rack = all (λ g. eqb g place || ltb (get_or rack g 0) alphabet) size

-- the refusal of a repair, given the length of the spare; 0 for none
unfoldable pub repair_refusal : ℕ → List ℕ → List ℕ → List ℕ → ℕ → ℕ
repair_refusal lost hs shares rack room =
    unless (eqb (length shares) helpers && eqb (length rack) size && eqb room 1) 2
    (unless (ltb lost trays && all_below hs racks && all_below shares alphabet && others_below (lost % size) rack) 3
    (unless (strictly_rising hs) 4
    (unless (eqb (length hs) helpers) 5
    (unless (absent hs (lost / size)) 6
    (unless (eqb (get_or shares 0 0) (get_or shares 1 0)) 8
    0)))))

-- the spare holds the one value with which the host rack's top coefficient is the helpers'
pub record Repairs (lost : ℕ) (shares rack new : List ℕ) : Type 0 where
  pub value : ℕ
  pub is : new ≡ value ∷ []
  pub symbol : value < alphabet
  pub top : Top (lost / size) (set rack (lost % size) value) (get_or shares 0 0)
  pub only : (v : ℕ) → v < alphabet → Top (lost / size) (set rack (lost % size) v) (get_or shares 0 0) → v ≡ value

-- the contract of a repair: the spare is old before and new after
pub record RepairAnswer (lost : ℕ) (hs shares rack old new : List ℕ) (r : Repaired) : Type 0 where
  pub answer : r.refusal ≡ repair_refusal lost hs shares rack (length old)
  pub crossed : r.crossed ≡ cond (eqb r.refusal 0) helpers 0
  pub unchanged : ¬ (r.refusal ≡ 0) → new ≡ old
  pub done : r.refusal ≡ 0 → Repairs lost shares rack new

-- the shares are those of the helpers' racks of a word, and the host rack has the word's values but for the lost tray's
pub record Sent (c : List ℕ) (lost : ℕ) (hs shares rack : List ℕ) : Type 0 where
  pub word : Word c
  pub sent : (k : ℕ) → k < length hs → Top (get_or hs k 0) (rack_of (get_or hs k 0) c) (get_or shares k 0)
  pub sound : (g : ℕ) → g < size → ¬ (g ≡ lost % size) → get_or rack g 0 ≡ get_or c (lost / size * size + g) 0
