-- What inner functions are told and give, and what a theorem speaks of. Nothing here has to be believed.
-- Assumes nothing.
use Rattle.std.specs.Prelude.{◌≡◌, Bool, not, ◌&&◌, ◌||◌, List, [], ◌∷◌, ℕ, ◌+◌, ◌-◌, ◌≤◌, ◌<◌, eqb, leb, ltb}
use Rattle.lists.specs.Lists.{all}
use Rattle.algebra.specs.Shape.{Field}
use Rattle.layout.specs.declared.Layout.{Layout}
use Rattle.layout.specs.declared.Tray.{Tray}
use Rattle.layout.specs.Layout.{trays, layers, groups, Cabinet}
use Rattle.rule.specs.Rule.{group_at, tray_part, Helpers}
use Rattle.rule.specs.Lost.{Of}
use Rattle.repair.specs.Calls.{Calls}

-- the test of ground 3
unfoldable pub in_range : Layout → ℕ → ℕ → ℕ → ℕ → ℕ → Bool
in_range l lost done tray first end =
    ltb lost (trays l) && ltb tray (trays l) && leb done (groups l) && leb first end && leb end (layers l)

-- every layer asked for, first .. end - 1, is in a done group of the lost tray's rack
unfoldable pub all_done : Layout → ℕ → ℕ → ℕ → ℕ → Bool
all_done l lost done first end = all (λ i. ltb (group_at l lost (first + i)) done) (end - first)

-- the test of ground 13
unfoldable pub available : Layout → ℕ → ℕ → ℕ → ℕ → ℕ → Bool
available l lost done tray first end = not (eqb tray lost) || all_done l lost done first end

-- a tray of a layout and a run of its layers
pub record Asked (l : Layout) (x first end : ℕ) : Type 0 where
  pub adm : Cabinet l
  pub tray_in : x < trays l
  pub rises : first ≤ end
  pub end_in : end ≤ layers l

-- the numbers of a call past ground 3
pub record Readable (l : Layout) (lost done tray first end : ℕ) : Type 0 where
  pub adm : Cabinet l
  pub lost_in : lost < trays l
  pub tray_in : tray < trays l
  pub done_in : done ≤ groups l
  pub rises : first ≤ end
  pub end_in : end ≤ layers l

-- The spare was written by a list of repair calls as the cutting claim has it, for the lost tray x alone, from the shares and sound trays of the codeword c,
-- and at least as far as the number of groups given; the store's other trays are those of c.
pub record Repairing {A : Type 0} (f : Field A) (l : Layout) (x : Tray) (c codeword spare : List ℕ) (done : ℕ) : Type 0 where
  pub helpers : List ℕ
  pub shares : List ℕ
  pub host : List ℕ
  pub start : List ℕ
  pub G : ℕ
  pub crossed : ℕ
  pub to_come : ℕ
  pub chosen : Helpers l x.0 helpers
  pub of : Of f l (x.0 ∷ []) helpers shares host c
  pub calls : Calls f l (x.0 ∷ []) helpers shares host start G crossed to_come spare
  pub far_enough : done ≤ G
  pub store : (y : ℕ) → y < trays l → ¬ (y ≡ x.0) → tray_part l codeword y ≡ tray_part l c y
