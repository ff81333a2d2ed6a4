-- Lists of repair calls of many codewords over one spare, and what is claimed of every such list.
-- Assumes nothing.
use Rattle.std.specs.Prelude.{◌≡◌, List, ℕ, ◌+◌, ◌-◌, ◌*◌, ◌<◌, ◌≤◌, length}
use Rattle.algebra.specs.Shape.{Field}
use Rattle.layout.specs.declared.Layout.{Layout}
use Rattle.layout.specs.Layout.{layers, groups, traffic}
use Rattle.repair.specs.declared.Repaired.TheVariants.{Done, Refused}
use Rattle.repair.specs.Repair.{report}
use Rattle.repair.specs.One.{OthersAlike, CutOne}
use Rattle.batch_parts.specs.Parts.{part}
use Rattle.batch_repair.specs.RepairBatch.{RepairBatchAnswer}

-- BatchCalls .. G crossed to_come spare: as `Calls` of the repair crate, for many codewords and one lost tray x. Each step is what the call's own contract allows.
pub data BatchCalls {A : Type 0} (f : Field A) (l : Layout) (many x : ℕ) (helpers shares host start : List ℕ) : ℕ → ℕ → ℕ → List ℕ → Type 0 where
  none : BatchCalls f l many x helpers shares host start 0 0 (many * traffic l) start
  -- a done call is over what was fixed (of each codeword's host rack the other trays are) and has first group G
  done : {G crossed to_come : ℕ} {spare : List ℕ} → BatchCalls f l many x helpers shares host start G crossed to_come spare →
      (budget : ℕ) (host' spare' : List ℕ) (g c t : ℕ) →
      ((q : ℕ) → q < many → (j : ℕ) → j < layers l → OthersAlike f l x j (part many q host) (part many q host')) →
      RepairBatchAnswer f l many x helpers shares host' G budget spare spare' (Done g c t) →
      BatchCalls f l many x helpers shares host start (G + (report (Done g c t)).groups) (crossed + (report (Done g c t)).crossed) (report (Done g c t)).remaining spare'
  -- a refused call is given anything besides the spare
  refused : {G crossed to_come : ℕ} {spare : List ℕ} → BatchCalls f l many x helpers shares host start G crossed to_come spare →
      (l' : Layout) (many' x' : ℕ) (helpers' shares' host' : List ℕ) (first budget : ℕ) (spare' : List ℕ) (e : ℕ) →
      RepairBatchAnswer f l' many' x' helpers' shares' host' first budget spare spare' (Refused e) →
      BatchCalls f l many x helpers shares host start G crossed to_come spare'

-- the cutting claim: the one of a single codeword holds for each, and the whole adds up
pub record CutBatch {A : Type 0} (f : Field A) (l : Layout) (many x : ℕ) (helpers shares host start : List ℕ) (G crossed to_come : ℕ) (spare : List ℕ) : Type 0 where
  pub within : G ≤ groups l
  pub long : length spare ≡ length start
  pub parts : (q : ℕ) → q < many →
      CutOne f l x helpers (part many q shares) (part many q host) (part many q start) G (l.helpers * G) (l.helpers * (groups l - G)) (part many q spare)
  pub crossed_is : crossed ≡ many * (l.helpers * G)
  pub to_come_is : to_come ≡ many * (l.helpers * (groups l - G))
  pub adds_up : crossed + to_come ≡ many * traffic l
