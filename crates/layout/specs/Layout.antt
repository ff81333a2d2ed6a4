-- The numbers of a cabinet and which layouts are admissible, as document 01 says, with the limits (W4) and the fifth number (W12) of document 02.
-- Assumes nothing.
use Rattle.std.specs.Prelude.{Bool, cond, ◌&&◌, ◌≡◌, ℕ, ◌+◌, ◌-◌, ◌*◌, ◌/◌, ◌%◌, ◌^◌, ◌≤◌, leb, eqb}
use Rattle.layout.specs.declared.Layout.{Layout}
use Rattle.layout.specs.declared.Measured.{Measured}
use Rattle.layout.specs.declared.Measured.TheVariants.{Known, Refused}

-- n, the trays
abbrev pub trays : Layout → ℕ
trays l = l.racks * l.size

-- K, the whole racks of data
abbrev pub whole_racks : Layout → ℕ
whole_racks l = l.dimension / l.size

-- r, the checks of a layer
abbrev pub checks : Layout → ℕ
checks l = trays l - l.dimension

-- R, the racks that are not whole racks of data
abbrev pub parity_racks : Layout → ℕ
parity_racks l = l.racks - whole_racks l

-- s, the base of a layer's digits: d - K + 1, and two less with E = 1, where two helpers more are to find a wrong share
abbrev pub digits : Layout → ℕ
digits l = l.helpers - 2 * l.errors - whole_racks l + 1

-- L, the layers
abbrev pub layers : Layout → ℕ
layers l = digits l ^ l.racks

-- L/s, the groups of layers for a host rack
abbrev pub groups : Layout → ℕ
groups l = layers l / digits l

-- d·L/s, the symbols that cross in a repair
abbrev pub traffic : Layout → ℕ
traffic l = l.helpers * groups l

-- which layouts are admissible for a field whose root has N powers. It has points for the rack sizes that divide N: in two racks or more of at most 60 trays these are 1, 3,
-- 5, 15 and 17 for 255, the field of 256, and 1, 2, 4, 8 and 16 for 256, the field modulo 257 (sizes-255 and sizes-256 in proofs/Sizes.antt). n is at most 60, L 4,096
unfoldable pub admissible : ℕ → Layout → Bool
admissible N l =
    leb 2 l.racks
    && (leb 1 l.size && eqb (l.size * (N / l.size)) N)
    && leb (trays l) 60
    && leb l.size l.dimension
    && leb l.size (trays l - l.dimension)
    && leb l.errors 1
    && leb (whole_racks l + 2 * l.errors) l.helpers
    && leb l.helpers (l.racks - 1)
    && leb (layers l) 4096

-- those with one E only: the calls for one E answer 1 for the other
unfoldable pub admissible_with : ℕ → ℕ → Layout → Bool
admissible_with N e l = admissible N l && eqb l.errors e

-- e lost trays of one rack can be repaired: 1 to u - v, where v = k mod u
unfoldable pub lost_count_fits : Layout → ℕ → Bool
lost_count_fits l e = leb 1 e && leb (e + l.dimension % l.size) l.size

-- the answer of the layout call
unfoldable pub measured : ℕ → Layout → Measured
measured N l = cond (admissible N l) (Known (layers l) (checks l) (traffic l)) (Refused 1)

-- ---- what only code and proofs need
-- the limits on n and on L
abbrev pub tray_limit : ℕ
tray_limit = 60

abbrev pub layer_limit : ℕ
layer_limit = 4096

-- the rack sizes for which a field whose root has N powers has points
unfoldable pub size_allowed : ℕ → ℕ → Bool
size_allowed N u = leb 1 u && eqb (u * (N / u)) N

-- the same as facts, for the contracts of functions that want an admissible layout: what holds for every field and either E
pub record Cabinet (l : Layout) : Type 0 where
  pub racks_low : 2 ≤ l.racks
  pub size_low : 1 ≤ l.size
  pub trays_high : trays l ≤ tray_limit
  pub dimension_low : l.size ≤ l.dimension
  pub checks_low : l.size ≤ trays l - l.dimension
  pub helpers_low : whole_racks l + 2 * l.errors ≤ l.helpers
  pub helpers_high : l.helpers ≤ l.racks - 1
  pub layers_high : layers l ≤ layer_limit

-- and what is asked besides: the field has points for the racks, and E is 0 or 1
pub record Admissible (N : ℕ) (l : Layout) : Type 0 where
  pub cabinet : Cabinet l
  pub size_ok : l.size * (N / l.size) ≡ N
  pub errors_high : l.errors ≤ 1

-- with one E only
pub record AdmissibleWith (N e : ℕ) (l : Layout) : Type 0 where
  pub admissible : Admissible N l
  pub errors_are : l.errors ≡ e
