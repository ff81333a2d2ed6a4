-- WHAT A CALL LOOKS AT (W10), over any field. "Symbols are 0 .. 256 ..; a larger one gets 3, unless the rules never look at it. Testing looks at every symbol before it
-- answers, a piece only at its own groups, a walk at its layers, W7 and a call with e = 0 at nothing": two calls that are alike in what they look at answer alike,
-- refusals included, and leave the same symbols. W7's refusal is of lengths and numbers alone (`part_refusal`). What recovering and storing never look at is in `Demand2`,
-- the lost trays' old symbols in `EachRepair`.
-- Assumes nothing.
use Rattle.std.specs.Prelude.{◌≡◌, true, List, [], ◌∷◌, ◌↔◌, ℕ, ◌+◌, ◌-◌, ◌*◌, ◌≤◌, ◌<◌, min, length}
use Rattle.algebra.specs.Coding.{InRange}
use Rattle.algebra.specs.Shape.{Field}
use Rattle.layout.specs.declared.Layout.{Layout}
use Rattle.layout.specs.Layout.{trays, layers, groups, admissible}
use Rattle.codeword.specs.Test.{test_refusal}
use Rattle.share.specs.Many.{shares_refusal, shares_buffer, many_refusal, add_many_refusal}
use Rattle.repair.specs.declared.Repaired.{Repaired}
use Rattle.repair.specs.Repair.{repair_refusal, RepairAnswer}
use Rattle.correcting.specs.declared.Corrected.{Corrected}
use Rattle.correcting.specs.Correcting.{CorrectingAnswer}
use Rattle.cards.specs.Cards.{PrintAnswer, CardAnswer}
use Rattle.scrub.specs.declared.Walk.{Walk}
use Rattle.scrub.specs.Scrub.{scrubbed}
use Rattle.claims.specs.Words.{Refuses, LayerAlike, OthersAlike, GroupsAlike}

pub record Looks {A : Type 0} (f : Field A) (l : Layout) : Type 0 where
  -- "Testing looks at every symbol before it answers": 3 exactly where some number is no symbol
  pub test : (c : List ℕ) → admissible f.order l ≡ true → length c ≡ trays l * layers l → (test_refusal f l c ≡ 3) ↔ (¬ (InRange f.coding c))
  -- "a piece only at its own groups"
  pub piece : (lost helpers shares shares' host host' : List ℕ) (first budget : ℕ) → GroupsAlike l lost shares shares' host host' first (min budget (groups l - first)) →
      (old new new' : List ℕ) (r r' : Repaired) →
      RepairAnswer f l lost helpers shares host first budget old new r → RepairAnswer f l lost helpers shares' host' first budget old new' r' → (r ≡ r') × (new ≡ new')
  -- a repair by card at the card and at its own group
  pub card : (x : ℕ) (helpers card shares shares' host host' : List ℕ) (group : ℕ) → GroupsAlike l (x ∷ []) shares shares' host host' group 1 →
      (old new new' : List ℕ) (r r' : Repaired) →
      CardAnswer f l x helpers card shares host group old new r → CardAnswer f l x helpers card shares' host' group old new' r' → (r ≡ r') × (new ≡ new')
  -- the repair with E = 1 at all shares and at the host rack's other trays
  pub correcting : (x : ℕ) (helpers shares host host' : List ℕ) → length host ≡ length host' → OthersAlike l (x ∷ []) host host' →
      (old new new' : List ℕ) (r r' : Corrected) →
      CorrectingAnswer f l x helpers shares host old new r → CorrectingAnswer f l x helpers shares host' old new' r' → (r ≡ r') × (new ≡ new')
  -- "a walk at its layers"
  pub walk : (c c' : List ℕ) (w : Walk) (budget : ℕ) → length c ≡ length c' →
      ((i : ℕ) → w.next ≤ i → i < w.next + min budget (layers l - w.next) → LayerAlike l c c' i) → scrubbed f l c w budget ≡ scrubbed f l c' w budget
  -- a share at its own rack, and printing a card at no symbol: what their rooms held does not matter
  pub share_room : (e h i : ℕ) (rack out out' : List ℕ) → length out ≡ length out' → shares_refusal f l e h i rack (length out) ≡ 0 →
      shares_buffer f l e h i rack out ≡ shares_buffer f l e h i rack out'
  pub print_room : (x : ℕ) (helpers : List ℕ) (group : ℕ) (old old' new new' : List ℕ) (e e' : ℕ) → length old ≡ length old' →
      PrintAnswer f l x helpers group old new e → PrintAnswer f l x helpers group old' new' e' → (e ≡ e') × (e ≡ 0 → new ≡ new')
  -- "a call with e = 0 at nothing"; it is refused
  pub none_shared : (h i : ℕ) (rack rack' : List ℕ) (room : ℕ) → length rack ≡ length rack' →
      (many_refusal f l 0 h i rack room ≡ many_refusal f l 0 h i rack' room) × Refuses (many_refusal f l 0 h i rack room)
  pub none_fed : (h x : ℕ) (tray tray' held held' : List ℕ) → length tray ≡ length tray' → length held ≡ length held' →
      (add_many_refusal f l 0 h x tray held ≡ add_many_refusal f l 0 h x tray' held') × Refuses (add_many_refusal f l 0 h x tray held)
  pub none_lost : (helpers shares shares' host host' : List ℕ) (room first budget : ℕ) → length shares ≡ length shares' → length host ≡ length host' →
      (repair_refusal f l [] helpers shares host room first budget ≡ repair_refusal f l [] helpers shares' host' room first budget)
      × Refuses (repair_refusal f l [] helpers shares host room first budget)
