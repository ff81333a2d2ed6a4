-- The checks of a block of layers, over any field: what inner functions are told and give. Nothing here has to be believed.
-- Assumes nothing.
use Rattle.std.specs.Prelude.{◌≡◌, List, ℕ, zero, suc, ◌+◌, ◌*◌, ◌/◌, ◌<◌, ◌≤◌, length, get_or}
use Rattle.algebra.specs.Sum.{sum, pow}
use Rattle.algebra.specs.Erasure.{fill, Places}
use Rattle.algebra.specs.Layers.{digit}
use Rattle.algebra.specs.Shape.{Field}
use Rattle.algebra.specs.Plain.{times}
use Rattle.kernel.specs.Inner.{cell}
use Rattle.layout.specs.declared.Layout.{Layout}
use Rattle.layout.specs.Layout.{trays, checks, digits}
use Rattle.codeword.specs.Codeword.{symbol_at, point_at}

-- the tray that entry k of a list names
abbrev pub entry_of : List ℕ → ℕ → ℕ
entry_of es k = get_or es k 0

-- a list of at most r different trays
pub record Listed (l : Layout) (es : List ℕ) : Type 0 where
  pub places : Places (entry_of es) (length es) (trays l)
  pub few : length es ≤ checks l

-- room for the first r checks of w layers, and for w symbols and points
pub record Room {X : Type 0} (w r : ℕ) (sums cur row : List X) : Type 0 where
  pub sums_long : r * w ≤ length sums
  pub cur_long : w ≤ length cur
  pub row_long : w ≤ length row

module _ {A : Type 0} (f : Field A) where
  open f use {ops}
  open f.coding use {elem}

  -- layer j of c, with zero for the trays listed
  unfoldable pub survivor_at : Layout → List ℕ → List ℕ → ℕ → ℕ → A
  survivor_at l es c j = fill (entry_of es) (λ k. ops.zero) (length es) (λ y. symbol_at f l c y j)

  -- a symbol, and z times it again and again
  unfoldable pub times_power : ℕ → ℕ → ℕ → ℕ
  times_power z first zero = first
  times_power z first (suc a) = times f (times_power z first a) z

  -- runs of equal symbols, each z times the one before
  unfoldable pub power_run : ℕ → ℕ → ℕ → ℕ → ℕ
  power_run z first run j = times_power z first (j / run)

  -- a symbol times z to the power of digit i, for each number of a block
  pub record DigitPowers (l : Layout) (w first i start z : ℕ) (row : List ℕ) : Type 0 where
    pub at : (j : ℕ) → j < w → elem (get_or row j 0) ≡ ops.mul (pow ops (elem z) (digit (digits l) (first + j) i)) (elem start)

  -- the points of tray x
  pub record TrayPoints (l : Layout) (w first x : ℕ) (row : List ℕ) : Type 0 where
    pub at : (j : ℕ) → j < w → elem (get_or row j 0) ≡ point_at f l (first + j) x

  -- a tray's part in check t, in column j
  abbrev pub term : List ℕ → List ℕ → ℕ → ℕ → A
  term row cur t j = ops.mul (pow ops (elem (get_or row j 0)) t) (elem (get_or cur j 0))

  -- these parts added to the checks below r
  pub record Terms (w r : ℕ) (row cur was is : List ℕ) : Type 0 where
    pub at : (t j : ℕ) → t < r → j < w → cell f w is t j ≡ ops.add (cell f w was t j) (term row cur t j)

  -- from check 1 on
  pub record Later (w r : ℕ) (row cur was is : List ℕ) : Type 0 where
    pub first : (j : ℕ) → j < w → cell f w is 0 j ≡ cell f w was 0 j
    pub at : (t j : ℕ) → 0 < t → t < r → j < w → cell f w is t j ≡ ops.add (cell f w was t j) (term row cur t j)

  -- as far as check t, and the symbols times the power before
  pub record Adding (w : ℕ) (row cur was is now : List ℕ) (t : ℕ) : Type 0 where
    pub first : (j : ℕ) → j < w → cell f w is 0 j ≡ cell f w was 0 j
    pub at : (v j : ℕ) → 0 < v → v < t → j < w → cell f w is v j ≡ ops.add (cell f w was v j) (term row cur v j)
    pub rest : (v j : ℕ) → t ≤ v → j < w → cell f w is v j ≡ cell f w was v j
    pub current : (j : ℕ) → j < w → ops.mul (elem (get_or row j 0)) (elem (get_or now j 0)) ≡ term row cur t j

  -- the part of tray x of c added
  pub record TrayTerms (l : Layout) (w first r : ℕ) (c : List ℕ) (x : ℕ) (was is : List ℕ) : Type 0 where
    pub at : (t j : ℕ) → t < r → j < w →
        cell f w is t j ≡ ops.add (cell f w was t j) (ops.mul (pow ops (point_at f l (first + j) x) t) (symbol_at f l c x (first + j)))

  -- the same, with zero for a tray listed
  pub record KeptTerms (l : Layout) (w first r : ℕ) (c es : List ℕ) (x : ℕ) (was is : List ℕ) : Type 0 where
    pub at : (t j : ℕ) → t < r → j < w →
        cell f w is t j ≡ ops.add (cell f w was t j) (ops.mul (pow ops (point_at f l (first + j) x) t) (survivor_at l es c (first + j) x))

  -- the checks over the trays below x
  pub record Sums (l : Layout) (w first r : ℕ) (c es : List ℕ) (x : ℕ) (sums : List ℕ) : Type 0 where
    pub at : (t j : ℕ) → t < r → j < w →
        cell f w sums t j ≡ sum ops x (λ y. ops.mul (pow ops (point_at f l (first + j) y) t) (survivor_at l es c (first + j) y))
