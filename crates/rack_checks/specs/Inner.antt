-- Checks by racks: what inner functions are told and give. Nothing here has to be believed.
-- Assumes nothing.
use Rattle.std.specs.Prelude.{◌≡◌, true, false, List, ℕ, ◌+◌, ◌-◌, ◌*◌, ◌/◌, ◌<◌, ◌≤◌, length, get_or}
use Rattle.lists.specs.Lists.{absent}
use Rattle.algebra.specs.Field.{Ops}
use Rattle.algebra.specs.Sum.{sum, pow}
use Rattle.algebra.specs.Layers.{digit}
use Rattle.algebra.specs.Points.{place, rack_sum}
use Rattle.algebra.specs.Shape.{Field}
use Rattle.kernel.specs.Inner.{cell}
use Rattle.layout.specs.declared.Layout.{Layout}
use Rattle.layout.specs.Layout.{trays, digits, layers, tray_limit}
use Rattle.codeword.specs.Codeword.{shape_of}
use Rattle.syndrome.specs.Inner.{survivor_at}

-- every tray from x on is listed
pub record ListedFrom (es : List ℕ) (x n : ℕ) : Type 0 where
  pub at : (y : ℕ) → x ≤ y → y < n → absent es y ≡ false

-- none of the n trays from x on is listed
pub record Kept (es : List ℕ) (x n : ℕ) : Type 0 where
  pub at : (g : ℕ) → g < n → absent es (x + g) ≡ true

-- racks of three trays or five
pub record Small (u : ℕ) : Type 0 where
  pub other : ¬ (u ≡ 3) → u ≡ 5

-- a buffer of all trays, of so many layers each
pub record Readable (l : Layout) (total : ℕ) (c : List ℕ) : Type 0 where
  pub total_is : total ≡ layers l
  pub long : length c ≡ trays l * layers l

-- r checks may go by racks, and no tray is kept from rack h on
pub record ByRacks {A : Type 0} (f : Field A) (l : Layout) (h r : ℕ) (es : List ℕ) : Type 0 where
  pub few : r ≤ tray_limit
  pub racks_in : h ≤ l.racks
  pub rest_listed : ListedFrom es (h * l.size) (trays l)
  pub divides : l.size * (f.order / l.size) ≡ f.order

module _ {A : Type 0} (f : Field A) (l : Layout) where
  open f use {ops, root}
  open f.coding use {elem}

  -- the symbol of rack i's place g in layer j, times the m-th power of the place's factor; zero for a tray listed
  unfoldable pub place_term : List ℕ → List ℕ → ℕ → ℕ → ℕ → ℕ → A
  place_term es c j i m g = ops.mul (pow ops (place (shape_of f l) g) m) (survivor_at f l es c j (i * l.size + g))

  -- the same added to a row
  pub record PlaceAdded (w first : ℕ) (c es : List ℕ) (i m g : ℕ) (was is : List ℕ) : Type 0 where
    pub at : (j : ℕ) → j < w → elem (get_or is j 0) ≡ ops.add (elem (get_or was j 0)) (place_term es c (first + j) i m g)

  -- the sums over the places below g
  pub record PlaceSums (w first : ℕ) (c es : List ℕ) (i m g : ℕ) (cur : List ℕ) : Type 0 where
    pub at : (j : ℕ) → j < w → elem (get_or cur j 0) ≡ sum ops g (place_term es c (first + j) i m)

  -- all sums of the weight before m
  pub record LastSums (w first : ℕ) (c es : List ℕ) (i m : ℕ) (cur : List ℕ) : Type 0 where
    pub at : 0 < m → PlaceSums w first c es i (m - 1) l.size cur

  -- the rack sum of weight m of layer j, over the trays that are not listed
  unfoldable pub kept_sum : List ℕ → List ℕ → ℕ → ℕ → ℕ → A
  kept_sum es c j m i = rack_sum (shape_of f l) (survivor_at f l es c j) m i

  -- check t of layer j, x so far from the racks above, after the symbol y of rack i
  unfoldable pub raised_by : ℕ → ℕ → ℕ → A → A → A
  raised_by i t j x y = ops.add (ops.mul (pow ops root (digits l * t)) x) (ops.mul (pow ops root (digit (digits l) j i * t)) y)

  -- check t of a block so, and no other
  pub record Raised (w first i t : ℕ) (cur was is : List ℕ) : Type 0 where
    pub at : (j : ℕ) → j < w → cell f w is t j ≡ raised_by i t (first + j) (cell f w was t j) (elem (get_or cur j 0))
    pub other : (v j : ℕ) → ¬ (v ≡ t) → j < w → cell f w is v j ≡ cell f w was v j

  -- the checks u·p + m so, for p below q, and no others
  pub record Weighed (w first i m : ℕ) (cur was is : List ℕ) (q : ℕ) : Type 0 where
    pub at : (p j : ℕ) → p < q → j < w → cell f w is (p * l.size + m) j ≡ raised_by i (p * l.size + m) (first + j) (cell f w was (p * l.size + m) j) (elem (get_or cur j 0))
    pub rest : (p j : ℕ) → q ≤ p → j < w → cell f w is (p * l.size + m) j ≡ cell f w was (p * l.size + m) j
    pub other : (p n j : ℕ) → n < l.size → ¬ (n ≡ m) → j < w → cell f w is (p * l.size + n) j ≡ cell f w was (p * l.size + n) j

  -- those below r
  pub record WeightRaised (w first r i m : ℕ) (cur was is : List ℕ) : Type 0 where
    pub at : (p j : ℕ) → p * l.size + m < r → j < w →
        cell f w is (p * l.size + m) j ≡ raised_by i (p * l.size + m) (first + j) (cell f w was (p * l.size + m) j) (elem (get_or cur j 0))
    pub other : (p n j : ℕ) → n < l.size → ¬ (n ≡ m) → j < w → cell f w is (p * l.size + n) j ≡ cell f w was (p * l.size + n) j

  -- the checks of the weights below m by the sums of rack i, and no others
  pub record Weights (w first r : ℕ) (c es : List ℕ) (i : ℕ) (was is : List ℕ) (m : ℕ) : Type 0 where
    pub at : (p n j : ℕ) → n < m → n < l.size → p * l.size + n < r → j < w →
        cell f w is (p * l.size + n) j ≡ raised_by i (p * l.size + n) (first + j) (cell f w was (p * l.size + n) j) (kept_sum es c (first + j) n i)
    pub rest : (p n j : ℕ) → m ≤ n → n < l.size → j < w → cell f w is (p * l.size + n) j ≡ cell f w was (p * l.size + n) j

  -- all checks
  pub record RackRaised (w first r : ℕ) (c es : List ℕ) (i : ℕ) (was is : List ℕ) : Type 0 where
    pub at : (p n j : ℕ) → n < l.size → p * l.size + n < r → j < w →
        cell f w is (p * l.size + n) j ≡ raised_by i (p * l.size + n) (first + j) (cell f w was (p * l.size + n) j) (kept_sum es c (first + j) n i)

  -- the part of rack i + k in check t, which has the weight n
  unfoldable pub rack_term : List ℕ → List ℕ → ℕ → ℕ → ℕ → ℕ → ℕ → A
  rack_term es c j t n i k = ops.mul (pow ops root ((k * digits l + digit (digits l) j (i + k)) * t)) (kept_sum es c j n (i + k))

  -- the checks over the racks from i on, as Horner's rule has them
  pub record Above (w first r : ℕ) (c es : List ℕ) (i : ℕ) (sums : List ℕ) : Type 0 where
    pub at : (p n j : ℕ) → n < l.size → p * l.size + n < r → j < w →
        cell f w sums (p * l.size + n) j ≡ sum ops (l.racks - i) (rack_term es c (first + j) (p * l.size + n) n i)
