-- What inner functions are told and give. Nothing here has to be believed.
-- Assumes nothing.
use Rattle.std.specs.Prelude.{◌≡◌, Bool, List, [], ◌∷◌, ℕ, ◌+◌, ◌*◌, ◌/◌, ◌%◌, ◌≤◌, ◌<◌, eqb, length, get_or}
use Rattle.lists.specs.Lists.{all}
use Rattle.algebra.specs.Sum.{sum}
use Rattle.algebra.specs.Erasure.{choose}
use Rattle.algebra.specs.Shape.{Field}
use Rattle.algebra.specs.Plain.{minus}
use Rattle.algebra.specs.Layers.{layer_of}
use Rattle.layout.specs.declared.Layout.{Layout}
use Rattle.layout.specs.Layout.{trays, digits, layers, groups, traffic, Cabinet, AdmissibleWith}
use Rattle.rule.specs.Rule.{Helpers}
use Rattle.rule.specs.Lost.{Piece}
use Rattle.card.specs.Card.{card_sum}
use Rattle.seen.specs.Seen.{sound_symbols}
use Rattle.batch_parts.specs.Parts.{part}

-- the shares and the host racks of many codewords, and a tray of the layout
pub record Wide (l : Layout) (many x : ℕ) (shares host : List ℕ) : Type 0 where
  pub adm : Cabinet l
  pub lost_in : x < trays l
  pub shares_long : length shares ≡ traffic l * many
  pub host_long : length host ≡ l.size * layers l * many

-- groups of the host racks
pub record Looking (l : Layout) (many x : ℕ) (host : List ℕ) (first count : ℕ) : Type 0 where
  pub adm : Cabinet l
  pub some : 0 < many
  pub lost_in : x < trays l
  pub host_long : length host ≡ l.size * layers l * many
  pub within : first + count ≤ groups l

-- a run of zeros, multipliers and runs that lie so many places apart
pub record Adding (out : List ℕ) (to len : ℕ) (card : List ℕ) (at d : ℕ) (shares : List ℕ) (from far : ℕ) : Type 0 where
  pub room : to + len ≤ length out
  pub zeros : (j : ℕ) → j < len → get_or out (to + j) 0 ≡ 0
  pub card_long : at + d ≤ length card
  pub rows : (k : ℕ) → k < d → from + k * far + len ≤ length shares

-- a group, its multipliers, and the buffers of many codewords
pub record Layering (l : Layout) (many x : ℕ) (card shares host : List ℕ) (p : ℕ) (spare : List ℕ) : Type 0 where
  pub wide : Wide l many x shares host
  pub card_long : digits l * l.helpers ≤ length card
  pub spare_long : length spare ≡ layers l * many
  pub group_in : p < groups l

module _ {A : Type 0} (f : Field A) where
  open f use {ops}
  open f.coding use {elem, val, size}

  -- in the host racks of all codewords the sound trays' numbers of these groups are symbols
  unfoldable pub host_seen : Layout → ℕ → ℕ → List ℕ → ℕ → ℕ → Bool
  host_seen l many x host first count = all (λ g. all (λ q. sound_symbols f l (x ∷ []) (x / l.size) (part many q host) first count g) many) l.size

  unfoldable pub lessened : List ℕ → ℕ → List ℕ → ℕ → ℕ → ℕ
  lessened out to src from j = minus f (get_or out (to + j) 0) (get_or src (from + j) 0)

  -- a run of symbols, and runs of a rack's trays
  pub record Lessening (out : List ℕ) (to len : ℕ) (host : List ℕ) (from far u : ℕ) : Type 0 where
    pub room : to + len ≤ length out
    pub held : (j : ℕ) → j < len → get_or out (to + j) 0 < size
    pub rows : (g : ℕ) → g < u → from + g * far + len ≤ length host

  -- the sum of the first n places' symbols but the lost tray's
  unfoldable pub sound_row : List ℕ → ℕ → ℕ → ℕ → ℕ → ℕ → A
  sound_row host from far lost n j = sum ops n (λ g. choose (eqb g lost) ops.zero (elem (get_or host (from + g * far + j) 0)))

  unfoldable pub less_rack : List ℕ → ℕ → List ℕ → ℕ → ℕ → ℕ → ℕ → ℕ → ℕ
  less_rack out to host from far lost n j = val (ops.add (elem (get_or out (to + j) 0)) (ops.neg (sound_row host from far lost n j)))

  unfoldable pub card_row : List ℕ → ℕ → List ℕ → ℕ → ℕ → ℕ → ℕ → ℕ
  card_row card at shares from far n j = val (sum ops n (λ k. ops.mul (elem (get_or card (at + k) 0)) (elem (get_or shares (from + k * far + j) 0))))

  -- the lost symbol of codeword q in the layer of group p with host digit b
  unfoldable pub repaired_at : Layout → ℕ → ℕ → List ℕ → List ℕ → List ℕ → ℕ → ℕ → ℕ → ℕ
  repaired_at l many x card shares host p b q =
      val (ops.add (card_sum f l card (λ k. elem (get_or shares ((k * groups l + p) * many + q) 0)) b)
      (ops.neg (sum ops l.size (λ g. choose (eqb g (x % l.size)) ops.zero (elem (get_or host ((g * layers l + layer_of (digits l) (x / l.size) p b) * many + q) 0))))))

  -- one layer done, the others as they were
  pub record LayerRepaired (l : Layout) (many x : ℕ) (card shares host : List ℕ) (p b : ℕ) (was is : List ℕ) : Type 0 where
    pub long : length is ≡ length was
    pub done : (q : ℕ) → q < many → get_or is (layer_of (digits l) (x / l.size) p b * many + q) 0 ≡ repaired_at l many x card shares host p b q
    pub other : (j q : ℕ) → q < many → ¬ (j ≡ layer_of (digits l) (x / l.size) p b) → get_or is (j * many + q) 0 ≡ get_or was (j * many + q) 0

  -- the layers of a group with host digits below n done, the others as they were
  pub record GroupRepaired (l : Layout) (many x : ℕ) (card shares host : List ℕ) (p n : ℕ) (was is : List ℕ) : Type 0 where
    pub long : length is ≡ length was
    pub done : (b q : ℕ) → b < n → q < many → get_or is (layer_of (digits l) (x / l.size) p b * many + q) 0 ≡ repaired_at l many x card shares host p b q
    pub other : (j q : ℕ) → q < many → ((b : ℕ) → b < n → ¬ (j ≡ layer_of (digits l) (x / l.size) p b)) → get_or is (j * many + q) 0 ≡ get_or was (j * many + q) 0

  -- what a piece is told
  pub record Told (l : Layout) (many x : ℕ) (helpers shares host : List ℕ) (first count : ℕ) (spare : List ℕ) : Type 0 where
    pub adm : AdmissibleWith f.order 0 l
    pub help : Helpers l x helpers
    pub shares_long : length shares ≡ traffic l * many
    pub host_long : length host ≡ l.size * layers l * many
    pub spare_long : length spare ≡ layers l * many
    pub within : first + count ≤ groups l

  -- each codeword's piece is repaired
  pub record BatchPiece (l : Layout) (many x : ℕ) (helpers shares host : List ℕ) (first count : ℕ) (was is : List ℕ) : Type 0 where
    pub long : length is ≡ length was
    pub parts : (q : ℕ) → q < many → Piece f l (x ∷ []) helpers (part many q shares) (part many q host) first count (part many q was) (part many q is)
