-- What the functions of a block of groups are told and give: where its layers lie, and the systems of their lost symbols. Nothing here has to be believed.
-- Assumes nothing.
use Rattle.std.specs.Prelude.{◌≡◌, List, ℕ, ◌+◌, ◌*◌, ◌/◌, ◌%◌, ◌<◌, ◌≤◌, length, get_or}
use Rattle.algebra.specs.Sum.{sum, pow}
use Rattle.algebra.specs.Erasure.{rest, erased, fill}
use Rattle.algebra.specs.Points.{place}
use Rattle.algebra.specs.Layers.{layer_of}
use Rattle.algebra.specs.Shape.{Field}
use Rattle.kernel.specs.Inner.{cell}
use Rattle.layout.specs.declared.Layout.{Layout}
use Rattle.layout.specs.Layout.{digits, layers, Cabinet}
use Rattle.codeword.specs.Codeword.{shape_of, symbol_at}
use Rattle.blocks.specs.Inner.{room_limit}
use Rattle.rule.specs.Lost.{lost_place}
use Rattle.sums.specs.Inner.{Groups}

-- where number j of a buffer stands that lies in runs, each so far behind the one before
unfoldable pub spot : (start run stride j : ℕ) → ℕ
spot start run stride j = start + j / run * stride + j % run

-- what stands there
unfoldable pub gathered : List ℕ → (start run stride j : ℕ) → ℕ
gathered src start run stride j = get_or src (spot start run stride j) 0

-- the runs lie in a buffer of so many
pub record Inside (start run count stride long : ℕ) : Type 0 where
  pub some : 0 < run
  pub apart : run ≤ stride
  pub at : (c : ℕ) → c < count → start + c * stride + run ≤ long

-- numbers below n of another buffer stand there, and everything else is as it was
pub record Scattered (start run stride n : ℕ) (src : List ℕ) (from : ℕ) (was is : List ℕ) : Type 0 where
  pub long : length is ≡ length was
  pub done : (j : ℕ) → j < n → get_or is (spot start run stride j) 0 ≡ get_or src (from + j) 0
  pub other : (i : ℕ) → ((j : ℕ) → j < n → ¬ (i ≡ spot start run stride j)) → get_or is i 0 ≡ get_or was i 0

-- w layers of a tray, in runs
pub record InTray (l : Layout) (w start run count stride : ℕ) : Type 0 where
  pub some : 0 < w
  pub inside : Inside start run count stride (layers l)
  pub whole : count * run ≡ w

-- the layers of a block of groups with the digit a
pub record Lying (l : Layout) (h w first a start run count stride : ℕ) : Type 0 where
  pub in_tray : InTray l w start run count stride
  pub at : (j : ℕ) → j < w → spot start run stride j ≡ layer_of (digits l) h (first + j) a

-- lost trays of the host rack h, and the rack's buffer
pub record Losing (l : Layout) (h : ℕ) (lost host : List ℕ) : Type 0 where
  pub adm : Cabinet l
  pub host_in : h < l.racks
  pub some : 0 < length lost
  pub few : length lost ≤ l.size
  pub one_rack_lem : (i : ℕ) → i < length lost → get_or lost i 0 / l.size ≡ h
  pub host_long : length host ≡ l.size * layers l

-- the rows below n of what was found stand in the runs of as many trays, and everything else is as it was
pub record PutRows (total w start run stride : ℕ) (found was is : List ℕ) (n : ℕ) : Type 0 where
  pub long : length is ≡ length was
  pub done : (i j : ℕ) → i < n → j < w → get_or is (i * total + spot start run stride j) 0 ≡ get_or found (i * w + j) 0
  pub kept : (i y : ℕ) → y < total → ((j : ℕ) → j < w → ¬ (y ≡ spot start run stride j)) → get_or is (i * total + y) 0 ≡ get_or was (i * total + y) 0

-- room for e rows of w symbols, and for what they are solved by
pub record Workspace (e w : ℕ) (rests found places coefs row cur : List ℕ) : Type 0 where
  pub few : e ≤ room_limit
  pub rests_long : e * w ≤ length rests
  pub found_long : e * w ≤ length found
  pub places_long : e ≤ length places
  pub coefs_long : e ≤ length coefs
  pub row_long : w ≤ length row
  pub cur_long : w ≤ length cur

module _ {A : Type 0} (f : Field A) where
  open f use {ops}
  open f.coding use {elem, size}

  -- the factors of the lost places
  pub record LostPlaces (l : Layout) (lost places : List ℕ) : Type 0 where
    pub at : (i : ℕ) → i < length lost → elem (get_or places i 0) ≡ place (shape_of f l) (lost_place l lost i)

  -- the same of the first n
  pub record PlacesTo (l : Layout) (lost : List ℕ) (n : ℕ) (places : List ℕ) : Type 0 where
    pub at : (i : ℕ) → i < n → elem (get_or places i 0) ≡ place (shape_of f l) (lost_place l lost i)

  -- the host rack's symbols in layer y, zero at the lost places
  unfoldable pub sound_symbol : (l : Layout) (lost host : List ℕ) (y g : ℕ) → A
  sound_symbol l lost host y = fill (lost_place l lost) (λ k. ops.zero) (length lost) (λ g. symbol_at f l host g y)

  -- the part of place g added to the sums of the weights below e, with the symbols of a word for each column
  pub record PlaceTerms (l : Layout) (w e : ℕ) (symbol : ℕ → A) (g : ℕ) (was is : List ℕ) : Type 0 where
    pub at : (m j : ℕ) → m < e → j < w → cell f w is m j ≡ ops.add (cell f w was m j) (ops.mul (pow ops (place (shape_of f l) g) m) (symbol j))

  -- every s-th row of the sums, from row a on
  pub record Begun (w e s a : ℕ) (sums rests : List ℕ) : Type 0 where
    pub at : (m j : ℕ) → m < e → j < w → cell f w rests m j ≡ cell f w sums (m * s + a) j

  -- the same with the parts of the places below g added
  pub record Growing (l : Layout) (lost host : List ℕ) (w a start run stride : ℕ) (sums rests : List ℕ) (g : ℕ) : Type 0 where
    pub at : (m j : ℕ) → m < length lost → j < w →
        cell f w rests m j
        ≡ ops.add (cell f w sums (m * digits l + a) j) (sum ops g (λ y. ops.mul (pow ops (place (shape_of f l) y) m) (sound_symbol l lost host (spot start run stride j) y)))

  -- less what the lost symbols must sum up to, a row for each weight; the buffer of sums has less the host's
  pub record Rests (l : Layout) (lost host : List ℕ) (w a start run stride : ℕ) (sums rests : List ℕ) : Type 0 where
    pub at : (m j : ℕ) → m < length lost → j < w →
        cell f w rests m j
        ≡ ops.neg (rest ops (place (shape_of f l)) l.size (lost_place l lost) (length lost) (λ m. ops.neg (cell f w sums (m * digits l + a) j))
        (λ g. symbol_at f l host g (spot start run stride j)) m)

  -- the lost symbols of the layer of group first + j with the digit a, where a buffer holds less the block's host sums: the i-th of them
  unfoldable pub found_at : (l : Layout) (lost host : List ℕ) (h w first : ℕ) (sums : List ℕ) (a j i : ℕ) → A
  found_at l lost host h w first sums a j i =
      erased ops (place (shape_of f l)) l.size (lost_place l lost) (length lost) (λ m. ops.neg (cell f w sums (m * digits l + a) j))
      (λ g. symbol_at f l host g (layer_of (digits l) h (first + j) a)) i

  -- the layers of the block with the digit a are written, all others are as they were
  pub record DigitRepaired (l : Layout) (h : ℕ) (lost host : List ℕ) (w first : ℕ) (sums : List ℕ) (a : ℕ) (old new : List ℕ) : Type 0 where
    pub long : length new ≡ length old
    pub done : (i j : ℕ) → i < length lost → j < w → elem (get_or new (i * layers l + layer_of (digits l) h (first + j) a) 0) ≡ found_at l lost host h w first sums a j i
    pub small : (i j : ℕ) → i < length lost → j < w → get_or new (i * layers l + layer_of (digits l) h (first + j) a) 0 < size
    pub kept : (i y : ℕ) → y < layers l → ((j : ℕ) → j < w → ¬ (y ≡ layer_of (digits l) h (first + j) a)) → get_or new (i * layers l + y) 0 ≡ get_or old (i * layers l + y) 0

  -- the layers of the block with a digit below a are written, all others are as they were
  pub record BlockRepaired (l : Layout) (h : ℕ) (lost host : List ℕ) (w first : ℕ) (sums : List ℕ) (a : ℕ) (old new : List ℕ) : Type 0 where
    pub long : length new ≡ length old
    pub done : (i b j : ℕ) → i < length lost → b < a → j < w →
        elem (get_or new (i * layers l + layer_of (digits l) h (first + j) b) 0) ≡ found_at l lost host h w first sums b j i
    pub small : (i b j : ℕ) → i < length lost → b < a → j < w → get_or new (i * layers l + layer_of (digits l) h (first + j) b) 0 < size
    pub kept : (i y : ℕ) → y < layers l → ((b j : ℕ) → b < digits l → j < w → ¬ (y ≡ layer_of (digits l) h (first + j) b)) →
        get_or new (i * layers l + y) 0 ≡ get_or old (i * layers l + y) 0

  -- what is told of a block: the lost trays, its groups and the host's sums
  pub record Repairing (l : Layout) (h : ℕ) (lost host : List ℕ) (w first : ℕ) (sums : List ℕ) : Type 0 where
    pub losing : Losing l h lost host
    pub block : Groups l w first
    pub sums_long : length lost * digits l * w ≤ length sums
