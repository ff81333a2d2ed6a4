-- Words that the pages of claims share: what a refusal is, and where two buffers are alike.
-- Assumes nothing.
use Rattle.std.specs.Prelude.{◌≡◌, true, List, ℕ, ◌+◌, ◌*◌, ◌/◌, ◌≤◌, ◌<◌, length, get_or}
use Rattle.lists.specs.Lists.{absent}
use Rattle.layout.specs.declared.Layout.{Layout}
use Rattle.layout.specs.Layout.{trays, layers, groups}
use Rattle.rule.specs.Rule.{group_at}
use Rattle.rule.specs.Lost.{first_lost}

-- a call that is refused: where the first ground that applies is not 0
abbrev pub Refuses : ℕ → Type 0
Refuses reason = ¬ (reason ≡ 0)

-- a call that answers `number` and turns the buffer old into new: the number is the first ground that applies, 0 for none, and a refusal changes no symbol
abbrev pub Grounded : ℕ → ℕ → List ℕ → List ℕ → Type 0
Grounded reason number old new = (number ≡ reason) × (Refuses reason → new ≡ old)

-- two buffers of the layout are alike in layer i
abbrev pub LayerAlike : Layout → List ℕ → List ℕ → ℕ → Type 0
LayerAlike l c d i = (x : ℕ) → x < trays l → get_or c (x * layers l + i) 0 ≡ get_or d (x * layers l + i) 0

-- two host racks are alike in the trays that are not listed as lost
abbrev pub OthersAlike : Layout → List ℕ → List ℕ → List ℕ → Type 0
OthersAlike l lost host host' =
    (g j : ℕ) → g < l.size → j < layers l → absent lost (first_lost l lost / l.size * l.size + g) ≡ true → get_or host (g * layers l + j) 0 ≡ get_or host' (g * layers l + j) 0

-- two repairs of the lost trays are given the same in n groups from the first on: the shares' symbols of these groups and, in the layers of these groups, those of
-- the host rack's trays that are not lost
pub record GroupsAlike (l : Layout) (lost shares shares' host host' : List ℕ) (first n : ℕ) : Type 0 where
  pub shares_long : length shares ≡ length shares'
  pub host_long : length host ≡ length host'
  pub sent : (i p : ℕ) → i < length lost * l.helpers → first ≤ p → p < first + n → get_or shares (i * groups l + p) 0 ≡ get_or shares' (i * groups l + p) 0
  pub sound : (g j : ℕ) → g < l.size → j < layers l → first ≤ group_at l (first_lost l lost) j → group_at l (first_lost l lost) j < first + n →
      absent lost (first_lost l lost / l.size * l.size + g) ≡ true → get_or host (g * layers l + j) 0 ≡ get_or host' (g * layers l + j) 0
