-- The rule of repair for several lost trays of one rack, over any field. The trays are listed in rising order; their rack is the host. A helper sends a share
-- for each weight m below e, the number of lost trays, in order of m. The spare's e·L numbers lie tray after tray as listed. For one lost tray this is
-- document 01's rule (`one_lost` in proofs/Single.antt).
-- Assumes nothing.
use Rattle.std.specs.Prelude.{◌≡◌, List, ℕ, ◌+◌, ◌*◌, ◌/◌, ◌%◌, ◌≤◌, ◌<◌, length, get_or}
use Rattle.lists.specs.Lists.{table}
use Rattle.algebra.specs.Lagrange.{check}
use Rattle.algebra.specs.Erasure.{fill}
use Rattle.algebra.specs.Shape.{Field}
use Rattle.algebra.specs.Points.{place}
use Rattle.algebra.specs.Cabinet.{Solution}
use Rattle.layout.specs.declared.Layout.{Layout}
use Rattle.layout.specs.Layout.{layers, groups, parity_racks}
use Rattle.codeword.specs.Codeword.{shape_of, Codeword, symbol_at}
use Rattle.rule.specs.Rule.{rack_part, Helpers, group_at, Outside, share_symbol}

module _ (l : Layout) (lost : List ℕ) where
  -- the first tray listed, whose rack is the host
  abbrev pub first_lost : ℕ
  first_lost = get_or lost 0 0

  -- the place of the i-th lost tray in the host rack
  unfoldable pub lost_place : ℕ → ℕ
  lost_place i = get_or lost i 0 % l.size

  -- 1 to u - v lost trays of one rack in rising order, and d helpers out of the other racks
  pub record Losses (helpers : List ℕ) : Type 0 where
    pub some : 0 < length lost
    pub few : length lost + l.dimension % l.size ≤ l.size
    pub one_rack_lem : (i : ℕ) → i < length lost → get_or lost i 0 / l.size ≡ first_lost / l.size
    pub rising : (i : ℕ) → i + 1 < length lost → get_or lost i 0 < get_or lost (i + 1) 0
    pub help : Helpers l first_lost helpers

  -- the lost trays of a codeword, one after another as listed
  unfoldable pub lost_part : List ℕ → List ℕ
  lost_part c = table (λ n. get_or c (get_or lost (n / layers l) 0 * layers l + n % layers l) 0) (length lost * layers l)

-- symbol p of the k-th helper's share of weight m, where each helper's e shares lie in order of m
unfoldable pub sent_symbol : {A : Type 0} → Field A → Layout → ℕ → List ℕ → ℕ → ℕ → ℕ → A
sent_symbol f l e shares m p k = f.coding.elem (get_or shares ((k * e + m) * groups l + p) 0)

module _ {A : Type 0} (f : Field A) (l : Layout) (lost : List ℕ) where
  -- the host rack's symbols in layer j, by place, with the spare's at the lost places
  unfoldable pub with_spare : List ℕ → List ℕ → ℕ → ℕ → A
  with_spare spare host j = fill (lost_place l lost) (λ i. f.coding.elem (get_or spare (i * layers l + j) 0)) (length lost) (λ g. symbol_at f l host g j)

  -- the layers of group p in the spare hold what the rule fixes: for each m below e there are rack sums, by rack and layer, that solve the R checks
  -- t = u·w + m summed over the group and agree with the shares of weight m, and in each layer the host rack's symbols, each times the m-th power of its
  -- place's factor, have the host's sum
  pub record Ruled (helpers shares host : List ℕ) (p : ℕ) (spare : List ℕ) : Type 0 where
    pub sums : ℕ → ℕ → ℕ → A
    pub solution : (m : ℕ) → m < length lost →
        Solution (shape_of f l) m (first_lost l lost / l.size) p (λ k. get_or helpers k 0) l.helpers (parity_racks l) (sent_symbol f l (length lost) shares m p) (sums m)
    pub holds : (j : ℕ) → j < layers l → group_at l (first_lost l lost) j ≡ p → (m : ℕ) → m < length lost →
        check f.ops (place (shape_of f l)) l.size (with_spare spare host j) m ≡ sums m (first_lost l lost / l.size) j
    pub symbols : (i : ℕ) → i < length lost → (j : ℕ) → j < layers l → group_at l (first_lost l lost) j ≡ p → get_or spare (i * layers l + j) 0 < f.coding.size

  -- for every group there is an outcome, and only one
  pub record One (helpers shares host : List ℕ) : Type 0 where
    pub outcome : List ℕ
    pub long : length outcome ≡ length lost * layers l
    pub ruled : (p : ℕ) → p < groups l → Ruled helpers shares host p outcome
    pub only : (p : ℕ) → p < groups l → (spare : List ℕ) → Ruled helpers shares host p spare →
        (i : ℕ) → i < length lost → (j : ℕ) → j < layers l → group_at l (first_lost l lost) j ≡ p → get_or spare (i * layers l + j) 0 ≡ get_or outcome (i * layers l + j) 0

  -- a piece of a repair has turned the spare old into new: the layers of its groups by the rule, every other layer as it was
  pub record Piece (helpers shares host : List ℕ) (first count : ℕ) (old new : List ℕ) : Type 0 where
    pub long : length new ≡ length old
    pub done : (p : ℕ) → first ≤ p → p < first + count → Ruled helpers shares host p new
    pub kept : (i : ℕ) → i < length lost → (j : ℕ) → j < layers l → Outside l (first_lost l lost) first count j → get_or new (i * layers l + j) 0 ≡ get_or old (i * layers l + j) 0

  -- two host racks are alike in the symbols of the sound trays in layer j
  abbrev pub SoundAlike : ℕ → List ℕ → List ℕ → Type 0
  SoundAlike j host host' = (g : ℕ) → g < l.size → ((i : ℕ) → i < length lost → ¬ (g ≡ lost_place l lost i)) → symbol_at f l host g j ≡ symbol_at f l host' g j

  -- the shares and the sound trays of the host rack are those of the codeword c
  pub record Of (helpers shares host c : List ℕ) : Type 0 where
    pub codeword : Codeword f l c
    pub share : (m k p : ℕ) → m < length lost → k < l.helpers → p < groups l →
        sent_symbol f l (length lost) shares m p k ≡ share_symbol f l m (first_lost l lost / l.size) (rack_part l c (get_or helpers k 0)) p
    pub sound : (j : ℕ) → j < layers l → SoundAlike j host (rack_part l c (first_lost l lost / l.size))
