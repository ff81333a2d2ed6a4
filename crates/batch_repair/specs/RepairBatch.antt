-- The repair of the lost tray x of many codewords: what the call answers and what the spare holds afterwards.
-- Assumes nothing.
use Rattle.std.specs.Prelude.{◌≡◌, Bool, ◌&&◌, List, [], ◌∷◌, ℕ, ◌+◌, ◌-◌, ◌*◌, ◌/◌, ◌<◌, min, eqb, leb, ltb, length}
use Rattle.lists.specs.Lists.{all, unless, all_below, strictly_rising, absent}
use Rattle.algebra.specs.Shape.{Field}
use Rattle.layout.specs.declared.Layout.{Layout}
use Rattle.layout.specs.Layout.{trays, layers, groups, traffic, admissible_with}
use Rattle.seen.specs.Seen.{piece_symbols}
use Rattle.repair.specs.declared.Repaired.{Repaired}
use Rattle.repair.specs.declared.RepairNumbers.{RepairNumbers}
use Rattle.repair.specs.declared.Repaired.TheVariants.{Done, Refused}
use Rattle.repair.specs.Repair.{report, RepairAnswer}
use Rattle.batch_parts.specs.Parts.{part}

-- the buffers have the lengths of one codeword's, times many
unfoldable pub right_lengths : Layout → ℕ → ℕ → ℕ → ℕ → Bool
right_lengths l many shares host spare = eqb shares (traffic l * many) && eqb host (l.size * layers l * many) && eqb spare (layers l * many)

-- what a piece looks at are symbols, in every codeword
unfoldable pub batch_symbols : {A : Type 0} → Field A → Layout → ℕ → ℕ → List ℕ → List ℕ → ℕ → ℕ → Bool
batch_symbols f l many x shares host first budget = all (λ q. piece_symbols f l (x ∷ []) (part many q shares) (part many q host) first budget) many

module _ {A : Type 0} (f : Field A) (l : Layout) (many x : ℕ) (helpers shares host : List ℕ) where
  -- the refusal, given the length of the spare; 0 for none. The grounds are those of one codeword's repair, in order
  unfoldable pub repair_batch_refusal : ℕ → ℕ → ℕ → ℕ
  repair_batch_refusal spare first budget =
      unless (admissible_with f.order 0 l) 1
      (unless (right_lengths l many (length shares) (length host) spare) 2
      (unless (ltb x (trays l) && all_below helpers l.racks && batch_symbols f l many x shares host first budget) 3
      (unless (strictly_rising helpers) 4
      (unless (eqb (length helpers) l.helpers) 5
      (unless (absent helpers (x / l.size)) 6
      (unless (leb first (groups l)) 7
      0))))))

  module _ (first budget : ℕ) (old new : List ℕ) where
    -- a call that is done: the smaller of the budget and the groups left, and of each codeword what the repair call answers and writes
    pub record RepairBatchDone (n : RepairNumbers) : Type 0 where
      pub accepted : repair_batch_refusal (length old) first budget ≡ 0
      pub done_is : n.groups ≡ min budget (groups l - first)
      pub crossed_is : n.crossed ≡ many * (l.helpers * n.groups)
      pub remaining_is : n.remaining ≡ many * (l.helpers * (groups l - (first + n.groups)))
      pub long : length new ≡ length old
      pub parts : (q : ℕ) → q < many → RepairAnswer f l (x ∷ []) helpers (part many q shares) (part many q host) first budget (part many q old) (part many q new)
          (Done n.groups (l.helpers * n.groups) (l.helpers * (groups l - (first + n.groups))))

    -- the contract of the call; one that is refused changes no symbol
    abbrev pub RepairBatchAnswer : Repaired → Type 0
    RepairBatchAnswer (Done g c t) = RepairBatchDone (report (Done g c t))
    RepairBatchAnswer (Refused e) = (e ≡ repair_batch_refusal (length old) first budget) × (0 < e) × (new ≡ old)
