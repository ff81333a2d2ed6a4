-- What inner functions are told and give. Nothing here has to be believed.
-- Assumes nothing.
use Rattle.std.specs.Prelude.{◌≡◌, cond, List, ◌++◌, ℕ, ◌+◌, ◌*◌, ◌<◌, ◌≤◌, ltb, eqb, length, get_or, drop}
use Rattle.lists.specs.Lists.{absent}
use Rattle.layout.specs.declared.Layout.{Layout}
use Rattle.layout.specs.Layout.{trays, layers, Cabinet}
use Rattle.image.specs.declared.Edition.{Edition}
use Rattle.image.specs.Image.{image_length, symbol_at}
use Rattle.gather.specs.Gathering.{image_of, image_ground, missing_trays, shown_symbol, rack_symbol}

-- there is an image at a place
pub record PlaceRead (e : Edition) (l : Layout) (place : ℕ) (images : List ℕ) : Type 0 where
  pub adm : Cabinet l
  pub image_in : place * image_length e l + image_length e l ≤ length images

-- there is an image at a place, and room for its symbols
pub record Place (e : Edition) (l : Layout) (total place : ℕ) (images out : List ℕ) : Type 0 where
  pub read : PlaceRead e l place images
  pub total_is : total ≡ layers l
  pub room_in : place * total + total ≤ length out

-- an admissible layout and buffers of the right lengths
pub record Gathering (e : Edition) (l : Layout) (images c m : List ℕ) : Type 0 where
  pub adm : Cabinet l
  pub images_long : length images ≡ trays l * image_length e l
  pub room_long : length c ≡ trays l * layers l
  pub list_long : length m ≡ trays l

pub record GatheredAll (e : Edition) (l : Layout) (volume : ℕ) (images c m d k : List ℕ) (r : ℕ) : Type 0 where
  pub count_is : r ≡ length (missing_trays e l volume images)
  pub long : length d ≡ length c
  pub symbols : (x j : ℕ) → x < trays l → j < layers l → get_or d (x * layers l + j) 0 ≡ shown_symbol e l volume images x j
  pub list_is : k ≡ missing_trays e l volume images ++ drop (length (missing_trays e l volume images)) m

-- an admissible layout, images and a room for the states
pub record Stating (e : Edition) (l : Layout) (images states : List ℕ) : Type 0 where
  pub adm : Cabinet l
  pub images_long : length images ≡ trays l * image_length e l
  pub room_long : length states ≡ trays l

-- ---- one rack
-- why the image at a place is not taken for tray x, 0 for no ground; a lost tray has none
unfoldable pub looked_ground : Edition → Layout → ℕ → List ℕ → List ℕ → ℕ → ℕ → ℕ
looked_ground e l volume lost images place x = cond (absent lost x) (image_ground e l volume x (image_of e l images place)) 0

-- the lower of two grounds, where 0 is none
unfoldable pub lower_of : ℕ → ℕ → ℕ
lower_of a b = cond (eqb a 0) b (cond (eqb b 0) a (cond (ltb b a) b a))

-- r is the lowest ground of the places below n, 0 for none
pub record Lowest (e : Edition) (l : Layout) (volume rack : ℕ) (lost images : List ℕ) (n r : ℕ) : Type 0 where
  pub small : r ≤ 11
  pub found : ¬ (r ≡ 0) → (g : ℕ) × (g < n) × (looked_ground e l volume lost images g (rack * l.size + g) ≡ r)
  pub least : (g : ℕ) → g < n → ¬ (looked_ground e l volume lost images g (rack * l.size + g) ≡ 0) →
      (0 < r) × (r ≤ looked_ground e l volume lost images g (rack * l.size + g))

pub record RackRead (e : Edition) (l : Layout) (rack : ℕ) (images : List ℕ) : Type 0 where
  pub adm : Cabinet l
  pub rack_in : rack < l.racks
  pub images_long : length images ≡ l.size * image_length e l

pub record RackRoom (e : Edition) (l : Layout) (rack : ℕ) (images out : List ℕ) : Type 0 where
  pub read : RackRead e l rack images
  pub room_long : length out ≡ l.size * layers l

-- the symbols of the image at a place, or for a lost tray what stood there; every other symbol as it was
pub record PlaceTaken (e : Edition) (l : Layout) (lost images : List ℕ) (place x : ℕ) (was is : List ℕ) : Type 0 where
  pub long : length is ≡ length was
  pub here : (j : ℕ) → j < layers l →
      get_or is (place * layers l + j) 0 ≡ cond (absent lost x) (symbol_at e (image_of e l images place) j) (get_or was (place * layers l + j) 0)
  pub kept : (g j : ℕ) → j < layers l → ¬ (g ≡ place) → get_or is (g * layers l + j) 0 ≡ get_or was (g * layers l + j) 0

-- the places below n are taken, the others as they were
pub record RackTaken (e : Edition) (l : Layout) (rack : ℕ) (lost images was is : List ℕ) (n : ℕ) : Type 0 where
  pub long : length is ≡ length was
  pub here : (g j : ℕ) → g < n → j < layers l → get_or is (g * layers l + j) 0 ≡ rack_symbol e l rack lost images was g j
  pub rest : (g j : ℕ) → n ≤ g → j < layers l → get_or is (g * layers l + j) 0 ≡ get_or was (g * layers l + j) 0
