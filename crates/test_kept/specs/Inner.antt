-- What inner functions are told and give. Nothing here has to be believed.
-- Assumes nothing.
use Rattle.std.specs.Prelude.{◌≡◌, List, ℕ, ◌+◌, ◌*◌, ◌^◌, ◌<◌, ◌≤◌}
use Rattle.algebra.specs.Shape.{Field}
use Rattle.layout.specs.declared.Layout.{Layout}
use Rattle.layout.specs.Layout.{checks, digits, layers, Cabinet}
use Rattle.blocks.specs.Inner.{block_limit, room_limit, Block}
use Rattle.restore.specs.Inner.{LayerFits, BlockFits}

-- a block of e digits, and room for it
pub record Wide (l : Layout) (e w first : ℕ) : Type 0 where
  pub block : Block l w first
  pub digits_in : e ≤ l.racks
  pub width_is : w ≡ digits l ^ e
  pub narrow : w ≤ block_limit
  pub rows : checks l * w ≤ room_limit

-- blocks of e digits from a layer on, and room for one
pub record Stretch (l : Layout) (e w from count : ℕ) : Type 0 where
  pub adm : Cabinet l
  pub digits_in : e ≤ l.racks
  pub width_is : w ≡ digits l ^ e
  pub narrow : w ≤ block_limit
  pub rows : checks l * w ≤ room_limit
  pub some : 0 < count
  pub number : ℕ
  pub from_is : from ≡ number * w
  pub inside : from + count * w ≤ layers l

module _ {A : Type 0} (f : Field A) (l : Layout) where
  -- not every layer of these blocks fits
  abbrev pub SomeUnfit : ℕ → ℕ → ℕ → List ℕ → List ℕ → Type 0
  SomeUnfit w from count es c = ¬ ((j : ℕ) → j < count * w → LayerFits f l es c (from + j))

  -- block q of them is the first that does not fit, and r its first layer
  pub record FirstUnfit (w from count : ℕ) (es c : List ℕ) (r : ℕ) : Type 0 where
    pub q : ℕ
    pub q_in : q < count
    pub first_is : r ≡ from + q * w
    pub earlier : (j : ℕ) → j < q * w → LayerFits f l es c (from + j)
    pub unfit : ¬ BlockFits f l w r es c

  -- the block of e digits from a layer on is the first that does not fit
  pub record BadBlock (e : ℕ) (es c : List ℕ) (first : ℕ) : Type 0 where
    pub wide : Wide l e (digits l ^ e) first
    pub earlier : (j : ℕ) → j < first → LayerFits f l es c j
    pub unfit : ¬ BlockFits f l (digits l ^ e) first es c

  -- layer j is the first that does not fit
  pub record FirstLayer (es c : List ℕ) (j : ℕ) : Type 0 where
    pub layer_in : j < layers l
    pub unfit : ¬ LayerFits f l es c j
    pub earlier : (i : ℕ) → i < j → LayerFits f l es c i
