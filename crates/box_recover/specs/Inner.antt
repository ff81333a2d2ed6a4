-- What inner functions are told and give. Nothing here has to be believed.
-- Assumes nothing.
use Rattle.std.specs.Prelude.{◌≡◌, Bool, true, false, not, ◌||◌, List, ℕ, ◌<◌, ◌≤◌, eqb, ltb, length, get_or}
use Rattle.lists.specs.Lists.{table, all, absent}
use Rattle.algebra.specs.Sum.{sum}
use Rattle.algebra.specs.Poly.{eval}
use Rattle.algebra.specs.Lagrange.{basis}
use Rattle.algebra.specs.Cabinet.{Rising}
use Rattle.algebra.specs.Group.{free}
use Rattle.nibble.specs.Elem.{Elem, elem, ops}
use Rattle.box_words.specs.Box.{alphabet, trays, dimension, erasable, points, point}

abbrev pub entry_of : List ℕ → ℕ → ℕ
entry_of es k = get_or es k 0

-- a list of at most nine trays, rising
pub record Listed (es : List ℕ) : Type 0 where
  pub rising : Rising (entry_of es) (length es) trays
  pub few : length es ≤ erasable

-- the i-th tray that is not listed
unfoldable pub survivor_of : List ℕ → ℕ → ℕ
survivor_of es i = free (entry_of es) (length es) i

-- what a list has at the first n trays that are not listed
unfoldable pub chosen_of : List ℕ → List ℕ → ℕ → List ℕ
chosen_of es src n = table (λ i. get_or src (survivor_of es i) 0) n

-- times (x - q) / (own - q), unless the test says that q is the point itself
abbrev pub factor_at : Bool → Elem → Elem → Elem → Elem → Elem
factor_at true own q x a = a
factor_at false own q x a = ops.mul (ops.inv (ops.add own (ops.neg q))) (ops.mul (ops.add x (ops.neg q)) a)

-- a list's numbers as points
abbrev pub points_of : List ℕ → ℕ → Elem
points_of qs i = elem (get_or qs i 0)

-- the value at x of the polynomial that is one at point i and zero at the others
unfoldable pub weight_at : List ℕ → ℕ → Elem → ℕ → Elem
weight_at qs i x n = eval ops (basis ops (points_of qs) i n) x

-- the value at x of the polynomial through the values at the points
unfoldable pub through_at : List ℕ → List ℕ → Elem → Elem
through_at qs vs x = sum ops (length qs) (λ i. ops.mul (elem (get_or vs i 0)) (weight_at qs i x (length qs)))

-- the word that the first seven survivors determine
unfoldable pub restored_at : List ℕ → List ℕ → ℕ → Elem
restored_at es c x = through_at (chosen_of es points dimension) (chosen_of es c dimension) (point x)

unfoldable pub restored_of : List ℕ → List ℕ → List ℕ
restored_of es c = table (λ x. (restored_at es c x).val) trays

-- two buffers are alike at the trays that are not listed
unfoldable pub agrees_at : List ℕ → List ℕ → List ℕ → ℕ → Bool
agrees_at es c w x = not (absent es x) || eqb (get_or w x 0) (get_or c x 0)

unfoldable pub agrees : List ℕ → List ℕ → List ℕ → Bool
agrees es c w = all (agrees_at es c w) trays

-- tray x is listed, or holds a symbol
unfoldable pub survivor_at : List ℕ → List ℕ → ℕ → Bool
survivor_at es c x = not (absent es x) || ltb (get_or c x 0) alphabet

-- d is c with w's values at the first n trays listed
pub record Filled (es w c d : List ℕ) (n : ℕ) : Type 0 where
  pub long : length d ≡ length c
  pub listed : (k : ℕ) → k < n → get_or d (get_or es k 0) 0 ≡ get_or w (get_or es k 0) 0
  pub kept : (x : ℕ) → ((k : ℕ) → k < n → ¬ (x ≡ get_or es k 0)) → get_or d x 0 ≡ get_or c x 0
