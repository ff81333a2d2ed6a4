-- Shares of the box: the top coefficient of the polynomial through a rack's four values.
-- Assumes nothing.
use Rattle.std.specs.Prelude.{◌≡◌, not, ◌&&◌, List, [], ◌∷◌, ℕ, ◌+◌, ◌*◌, ◌<◌, eqb, ltb, length, get_or}
use Rattle.lists.specs.Lists.{table, unless, all_below}
use Rattle.algebra.specs.Coding.{InRange}
use Rattle.nibble.specs.Elem.{elem, coding}
use Rattle.box_words.specs.Box.{alphabet, racks, size, point, value}

-- the four values of rack i of a word
unfoldable pub rack_of : ℕ → List ℕ → List ℕ
rack_of i c = table (λ g. get_or c (i * size + g) 0) size

-- e has the coefficients of the polynomial of degree below 4 through four values at the points of rack i
pub record Through (i : ℕ) (vs e : List ℕ) : Type 0 where
  pub long : length e ≡ size
  pub symbols : InRange coding e
  pub at : (g : ℕ) → g < size → value size e (point (i * size + g)) ≡ elem (get_or vs g 0)

-- s is the top coefficient, that of x^3, of the polynomial through four values of rack i
pub record Top (i : ℕ) (vs : List ℕ) (s : ℕ) : Type 0 where
  pub polynomial : List ℕ
  pub through : Through i vs polynomial
  pub top : s ≡ get_or polynomial 3 0

-- the refusal of a share, given the length of the room for it; 0 for none
unfoldable pub share_refusal : ℕ → ℕ → List ℕ → ℕ → ℕ
share_refusal host helper vs room =
    unless (eqb (length vs) size && eqb room 1) 2
    (unless (ltb host racks && ltb helper racks && all_below vs alphabet) 3
    (unless (not (eqb host helper)) 6
    0))

-- the room holds the helper's share
pub record Shares (helper : ℕ) (vs new : List ℕ) : Type 0 where
  pub share : ℕ
  pub is : new ≡ share ∷ []
  pub top : Top helper vs share

-- the contract of a share: the room is old before and new after, and the number is what it answers
pub record ShareAnswer (host helper : ℕ) (vs old new : List ℕ) (number : ℕ) : Type 0 where
  pub answer : number ≡ share_refusal host helper vs (length old)
  pub unchanged : ¬ (number ≡ 0) → new ≡ old
  pub done : number ≡ 0 → Shares helper vs new
