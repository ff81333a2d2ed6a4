-- What a repair answers and what the spare holds afterwards.
-- Assumes nothing.
use Rattle.std.specs.Prelude.{◌≡◌, ◌&&◌, List, ℕ, ◌+◌, ◌-◌, ◌*◌, ◌/◌, ◌<◌, min, eqb, leb, length, get_or}
use Rattle.lists.specs.Lists.{unless, all_below, strictly_rising, absent}
use Rattle.algebra.specs.Shape.{Field}
use Rattle.layout.specs.declared.Layout.{Layout}
use Rattle.layout.specs.Layout.{trays, layers, groups, traffic, admissible_with, lost_count_fits}
use Rattle.rule.specs.Lost.{first_lost, lost_place, Piece}
use Rattle.grounds.specs.Grounds.{one_rack}
use Rattle.seen.specs.Seen.{piece_symbols}
use Rattle.repair.specs.declared.Repaired.{Repaired}
use Rattle.repair.specs.declared.RepairNumbers.{RepairNumbers}
use Rattle.repair.specs.declared.Repaired.TheVariants.{Done, Refused}

-- the numbers of the host rack's sound trays are symbols, as the claims over whole repairs ask
abbrev pub SoundSymbols : {A : Type 0} → Field A → Layout → List ℕ → List ℕ → Type 0
SoundSymbols f l lost host = (g j : ℕ) → g < l.size → j < layers l → ((i : ℕ) → i < length lost → ¬ (g ≡ lost_place l lost i)) → get_or host (g * layers l + j) 0 < f.coding.size

-- the refusal of a repair of the lost trays, given the shares, the host rack and the length of the spare; 0 for none. Repair in pieces is for E = 0 (W12)
unfoldable pub repair_refusal : {A : Type 0} → Field A → Layout → List ℕ → List ℕ → List ℕ → List ℕ → ℕ → ℕ → ℕ → ℕ
repair_refusal f l lost helpers shares host spare first budget =
    unless (admissible_with f.order 0 l) 1
    (unless (eqb (length shares) (length lost * traffic l) && eqb (length host) (l.size * layers l) && eqb spare (length lost * layers l)) 2
    (unless (all_below lost (trays l) && one_rack l lost && all_below helpers l.racks && piece_symbols f l lost shares host first budget) 3
    (unless (strictly_rising lost && strictly_rising helpers) 4
    (unless (eqb (length helpers) l.helpers) 5
    (unless (lost_count_fits l (length lost)) 12
    (unless (absent helpers (first_lost l lost / l.size)) 6
    (unless (leb first (groups l)) 7
    0)))))))

-- document 01's numbers for each answer: the refusal (0 for none), the groups done, the symbols crossed and those still to come
abbrev pub report : Repaired → RepairNumbers
report (Done g c t) = record { refusal = 0; groups = g; crossed = c; remaining = t }
report (Refused e) = record { refusal = e; groups = 0; crossed = 0; remaining = 0 }

module _ {A : Type 0} (f : Field A) (l : Layout) (lost helpers shares host : List ℕ) (first budget : ℕ) (old new : List ℕ) where
  -- a call that is done: the smaller of the budget and the groups left, and nothing else written
  pub record RepairDone (n : RepairNumbers) : Type 0 where
    pub accepted : repair_refusal f l lost helpers shares host (length old) first budget ≡ 0
    pub done_is : n.groups ≡ min budget (groups l - first)
    pub crossed_is : n.crossed ≡ length lost * (l.helpers * n.groups)
    pub remaining_is : n.remaining ≡ length lost * (l.helpers * (groups l - (first + n.groups)))
    pub piece : Piece f l lost helpers shares host first n.groups old new

  -- the contract of the repair call; one that is refused changes no symbol
  abbrev pub RepairAnswer : Repaired → Type 0
  RepairAnswer (Done g c t) = RepairDone (report (Done g c t))
  RepairAnswer (Refused e) = (e ≡ repair_refusal f l lost helpers shares host (length old) first budget) × (0 < e) × (new ≡ old)
