-- What the functions of this crate are told and give, over any field: the symbols that the checks determine, which recovering and storing rest on. Nothing here has to be believed.
-- Assumes nothing.
use Rattle.std.specs.Prelude.{◌≡◌, Bool, true, false, List, ℕ, ◌+◌, ◌*◌, ◌<◌, ◌≤◌, length, get_or}
use Rattle.algebra.specs.Shape.{Field}
use Rattle.algebra.specs.Lagrange.{check}
use Rattle.algebra.specs.Repair.{restored}
use Rattle.layout.specs.declared.Layout.{Layout}
use Rattle.layout.specs.Layout.{trays, checks, layers, Cabinet}
use Rattle.codeword.specs.Codeword.{shape_of, symbol_at, point_at}
use Rattle.syndrome.specs.Inner.{entry_of, Listed}
use Rattle.algebra.specs.Field.{Ops}
use Rattle.algebra.specs.Erasure.{zeros, erased}
use Rattle.kernel.specs.Inner.{cell}

-- the symbols of c with those of the trays listed as the checks determine them
abbrev pub restored_at : {A : Type 0} → Field A → Layout → List ℕ → List ℕ → ℕ → ℕ → A
restored_at f l es c = restored (shape_of f l) (entry_of es) (length es) (symbol_at f l c)

-- layer j of these meets all checks
abbrev pub LayerFits : {A : Type 0} → Field A → Layout → List ℕ → List ℕ → ℕ → Type 0
LayerFits f l es c j = (t : ℕ) → t < checks l → check f.ops (point_at f l j) (trays l) (λ x. restored_at f l es c x j) t ≡ f.ops.zero

-- what a test answers: true where it holds, false where it does not
abbrev pub Says : Bool → Type 0 → Type 0
Says true P = P
Says false P = ¬ P

-- a cabinet's layout, its number of layers, a list of trays and a buffer of the right length
pub record Erasing (l : Layout) (total : ℕ) (es c : List ℕ) : Type 0 where
  pub adm : Cabinet l
  pub total_is : total ≡ layers l
  pub long : length c ≡ trays l * layers l
  pub listed : Listed l es

-- the layers below i of the trays listed restored, and everything else as it was
pub record RestoredTo {A : Type 0} (f : Field A) (l : Layout) (es c : List ℕ) (i : ℕ) (d : List ℕ) : Type 0 where
  pub long : length d ≡ length c
  pub done : (x j : ℕ) → x < trays l → j < i → symbol_at f l d x j ≡ restored_at f l es c x j
  pub small : (k j : ℕ) → k < length es → j < i → get_or d (get_or es k 0 * layers l + j) 0 < f.coding.size
  pub kept : (x j : ℕ) → j < layers l → ((k : ℕ) → k < length es → ¬ (x ≡ get_or es k 0)) → get_or d (x * layers l + j) 0 ≡ get_or c (x * layers l + j) 0
  pub rest : (x j : ℕ) → j < layers l → i ≤ j → get_or d (x * layers l + j) 0 ≡ get_or c (x * layers l + j) 0

-- the layers of a block of the trays listed lie in the buffer
pub record Cells (total w first : ℕ) (es c found : List ℕ) : Type 0 where
  pub apart : (j k : ℕ) → j < length es → k < length es → get_or es j 0 ≡ get_or es k 0 → j ≡ k
  pub trays_in : (k : ℕ) → k < length es → get_or es k 0 * total + total ≤ length c
  pub inside : first + w ≤ total
  pub found_long : length es * w ≤ length found

-- the rows below n of what was found stand in the trays listed, and everything else is as it was
pub record PutBlock (total w first : ℕ) (es found was is : List ℕ) (n : ℕ) : Type 0 where
  pub long : length is ≡ length was
  pub here : (k j : ℕ) → k < n → j < w → get_or is (get_or es k 0 * total + (first + j)) 0 ≡ get_or found (k * w + j) 0
  pub kept : (x j : ℕ) → j < w → ((k : ℕ) → k < n → ¬ (x ≡ get_or es k 0)) → get_or is (x * total + (first + j)) 0 ≡ get_or was (x * total + (first + j)) 0
  pub before : (x j : ℕ) → j < first → get_or is (x * total + j) 0 ≡ get_or was (x * total + j) 0
  pub after : (x j : ℕ) → j < total → first + w ≤ j → get_or is (x * total + j) 0 ≡ get_or was (x * total + j) 0

module _ {A : Type 0} (f : Field A) where
  open f use {ops}
  open f.coding use {size}

  -- the symbol of entry k of the list in layer j
  unfoldable pub erased_at : Layout → List ℕ → List ℕ → ℕ → ℕ → A
  erased_at l es c j = erased ops (point_at f l j) (trays l) (entry_of es) (length es) (zeros ops) (λ y. symbol_at f l c y j)

  -- a block restored, the other layers and trays as they were
  pub record BlockRestored (l : Layout) (w first : ℕ) (es c d : List ℕ) : Type 0 where
    pub long : length d ≡ length c
    pub here : (x j : ℕ) → x < trays l → j < w → symbol_at f l d x (first + j) ≡ restored_at f l es c x (first + j)
    pub small : (k j : ℕ) → k < length es → j < w → get_or d (get_or es k 0 * layers l + (first + j)) 0 < size
    pub kept : (x j : ℕ) → j < layers l → ((k : ℕ) → k < length es → ¬ (x ≡ get_or es k 0)) → get_or d (x * layers l + j) 0 ≡ get_or c (x * layers l + j) 0
    pub before : (x j : ℕ) → j < first → get_or d (x * layers l + j) 0 ≡ get_or c (x * layers l + j) 0
    pub after : (x j : ℕ) → j < layers l → first + w ≤ j → get_or d (x * layers l + j) 0 ≡ get_or c (x * layers l + j) 0

  -- the checks below r of the first n rows found, added
  pub record FoundTerms (l : Layout) (w first r : ℕ) (es found was is : List ℕ) (n : ℕ) : Type 0 where
    pub at : (t j : ℕ) → t < r → j < w →
        cell f w is t j ≡ ops.add (cell f w was t j) (check ops (λ i. point_at f l (first + j) (get_or es i 0)) n (λ k. cell f w found k j) t)

  -- every layer of a block meets its checks
  abbrev pub BlockFits : Layout → ℕ → ℕ → List ℕ → List ℕ → Type 0
  BlockFits l w first es c = (j : ℕ) → j < w → LayerFits f l es c (first + j)
