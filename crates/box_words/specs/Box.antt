-- The sixteen-tray box of document 02 (W11): sixteen trays of one symbol in four racks of four, over the field of 16. A word of the box is the values at
-- sixteen points of a polynomial of degree below 7, whose coefficients are the data.
-- Assumes nothing.
use Rattle.std.specs.Prelude.{◌≡◌, List, [], ◌∷◌, ◌++◌, ℕ, ◌-◌, length, get_or}
use Rattle.lists.specs.Lists.{table}
use Rattle.algebra.specs.Coding.{InRange}
use Rattle.algebra.specs.Sum.{sum, pow}
use Rattle.nibble.specs.Arithmetic.{ypow}
use Rattle.nibble.specs.Elem.{Elem, elem, ops, coding}

-- the number of symbols, which are the numbers below it
abbrev pub alphabet : ℕ
alphabet = 16

-- the number of trays, of data symbols, of trays that may be erased, of racks, of trays in a rack and of helpers in a repair
abbrev pub trays : ℕ
trays = 16

abbrev pub dimension : ℕ
dimension = 7

abbrev pub erasable : ℕ
erasable = trays - dimension

abbrev pub racks : ℕ
racks = 4

abbrev pub size : ℕ
size = 4

abbrev pub helpers : ℕ
helpers = 2

-- the sixteen points as numbers, rack after rack in the order written
unfoldable pub points : List ℕ
points =
    (0 ∷ 1 ∷ ypow 5 ∷ ypow 10 ∷ [])
    ++ (ypow 1 ∷ ypow 2 ∷ ypow 4 ∷ ypow 8 ∷ [])
    ++ (ypow 6 ∷ ypow 7 ∷ ypow 9 ∷ ypow 13 ∷ [])
    ++ (ypow 3 ∷ ypow 11 ∷ ypow 12 ∷ ypow 14 ∷ [])

-- the point of tray x
unfoldable pub point : ℕ → Elem
point x = elem (get_or points x 0)

-- h(x) = x + x^4, by which the racks are sorted
unfoldable pub h_at : Elem → Elem
h_at x = ops.add x (pow ops x 4)

-- what h is at the points of rack i: 0, 1, y^5, y^10
unfoldable pub h_of : ℕ → Elem
h_of i = elem (get_or (0 ∷ 1 ∷ ypow 5 ∷ ypow 10 ∷ []) i 0)

-- the value at q of the polynomial whose n coefficients lie in a buffer, lowest first
unfoldable pub value : ℕ → List ℕ → Elem → Elem
value n d q = sum ops n (λ t. ops.mul (elem (get_or d t 0)) (pow ops q t))

-- data: seven symbols
pub record Data (d : List ℕ) : Type 0 where
  pub long : length d ≡ dimension
  pub symbols : InRange coding d

-- the word of the data d: the values of their polynomial at the sixteen points
unfoldable pub word_of : List ℕ → List ℕ
word_of d = table (λ x. (value dimension d (point x)).val) trays

-- a word of the box: that of some data
pub record Word (c : List ℕ) : Type 0 where
  pub coefficients : List ℕ
  pub given : Data coefficients
  pub is : c ≡ word_of coefficients
