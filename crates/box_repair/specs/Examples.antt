-- Worked examples after Example 1 of source 003, as one table, and what it claims of each line.
-- Assumes nothing.
use Rattle.std.specs.Prelude.{◌≡◌, List, [], ◌∷◌, ◌++◌, ℕ, length, replicate}
use Rattle.nibble.specs.Arithmetic.{ypow}
use Rattle.box_words.specs.Box.{points, word_of}
use Rattle.box_words.specs.Store.{store_refusal}
use Rattle.box_repair.specs.Share.{Top}

-- a line of the table
pub data Line : Type 0 where
  -- data, and the word they are stored as
  stores : List ℕ → List ℕ → Line
  -- a rack, its four values, and its share
  shares : ℕ → List ℕ → ℕ → Line

abbrev pub Holds : Line → Type 0
Holds (stores given c) = (store_refusal given (length c) ≡ 0) × (word_of given ≡ c)
Holds (shares i vs s) = Top i vs s

abbrev pub AllHold : List Line → Type 0
AllHold [] = Unit
AllHold (line ∷ lines) = Holds line × AllHold lines

-- the values of h, rack after rack: 0, 1, y^5, y^10
abbrev pub sorted : List ℕ
sorted = replicate 4 0 ++ replicate 4 1 ++ replicate 4 (ypow 5) ++ replicate 4 (ypow 10)

abbrev pub examples : List Line
examples =
    -- x has the points as values, and h(x) = x + x^4 sorts them into racks
    stores (0 ∷ 1 ∷ 0 ∷ 0 ∷ 0 ∷ 0 ∷ 0 ∷ []) points
    ∷ stores (0 ∷ 1 ∷ 0 ∷ 0 ∷ 1 ∷ 0 ∷ 0 ∷ []) sorted
    -- any data, and the shares of their word, which are equal
    ∷ stores (1 ∷ 2 ∷ 3 ∷ 4 ∷ 5 ∷ 6 ∷ 7 ∷ []) (1 ∷ 0 ∷ 11 ∷ 9 ∷ 5 ∷ 1 ∷ 15 ∷ 8 ∷ 14 ∷ 9 ∷ 8 ∷ 12 ∷ 6 ∷ 14 ∷ 7 ∷ 12 ∷ [])
    ∷ shares 0 (1 ∷ 0 ∷ 11 ∷ 9 ∷ []) 3
    ∷ shares 1 (5 ∷ 1 ∷ 15 ∷ 8 ∷ []) 3
    ∷ shares 2 (14 ∷ 9 ∷ 8 ∷ 12 ∷ []) 3
    ∷ shares 3 (6 ∷ 14 ∷ 7 ∷ 12 ∷ []) 3
    -- the values of x^7, of degree above a word's: the shares are those of h
    ∷ shares 0 (0 ∷ 1 ∷ ypow 5 ∷ ypow 10 ∷ []) 0
    ∷ shares 1 (ypow 7 ∷ ypow 14 ∷ ypow 13 ∷ ypow 11 ∷ []) 1
    ∷ shares 2 (ypow 12 ∷ ypow 4 ∷ ypow 3 ∷ ypow 1 ∷ []) (ypow 5)
    ∷ shares 3 (ypow 6 ∷ ypow 2 ∷ ypow 9 ∷ ypow 8 ∷ []) (ypow 10)
    ∷ []
