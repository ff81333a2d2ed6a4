-- What inner functions are told and give. Nothing here has to be believed.
-- Assumes nothing.
use Rattle.std.specs.Prelude.{◌≡◌, Bool, cond, ◌&&◌, ◌||◌, List, ℕ, ◌/◌, ◌%◌, ◌<◌, eqb, ltb, length, get_or}
use Rattle.lists.specs.Lists.{unless, all_below, strictly_rising, absent}
use Rattle.algebra.specs.Sum.{sum}
use Rattle.nibble.specs.Elem.{Elem, elem, ops}
use Rattle.box_words.specs.Box.{alphabet, trays, racks, size, helpers}
use Rattle.box_repair.specs.Repair.{others_below}

-- the sum of four values
unfoldable pub sum_of : List ℕ → Elem
sum_of vs = sum ops size (λ g. elem (get_or vs g 0))

-- the value at place g, or zero at the lost place
unfoldable pub other_at : ℕ → List ℕ → ℕ → ℕ
other_at place rack g = cond (eqb g place) 0 (get_or rack g 0)

-- the sum of the three others
unfoldable pub others_of : ℕ → List ℕ → Elem
others_of place rack = sum ops size (λ g. elem (other_at place rack g))

-- whether the value at place g is the lost one or a symbol
unfoldable pub other_below : ℕ → List ℕ → ℕ → Bool
other_below place rack g = eqb g place || ltb (get_or rack g 0) alphabet

-- the numbers and values that ground 3 looks at
unfoldable pub numbers_fit : ℕ → List ℕ → List ℕ → List ℕ → Bool
numbers_fit lost hs shares rack = ltb lost trays && all_below hs racks && all_below shares alphabet && others_below (lost % size) rack

-- the grounds after that
unfoldable pub helper_refusal : ℕ → List ℕ → List ℕ → ℕ
helper_refusal lost hs shares =
    unless (strictly_rising hs) 4
    (unless (eqb (length hs) helpers) 5
    (unless (absent hs (lost / size)) 6
    (unless (eqb (get_or shares 0 0) (get_or shares 1 0)) 8
    0)))

-- four values, of which the three others are symbols
pub record Sound (place : ℕ) (rack : List ℕ) : Type 0 where
  pub long : length rack ≡ size
  pub symbols : (g : ℕ) → g < size → ¬ (g ≡ place) → get_or rack g 0 < alphabet
