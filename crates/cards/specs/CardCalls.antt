-- Lists of repairs over one spare in which some groups are done by cards.
-- Assumes nothing.
use Rattle.std.specs.Prelude.{List, [], ◌∷◌, ℕ, ◌+◌, ◌<◌}
use Rattle.algebra.specs.Shape.{Field}
use Rattle.layout.specs.declared.Layout.{Layout}
use Rattle.layout.specs.Layout.{layers, traffic}
use Rattle.repair.specs.declared.Repaired.TheVariants.{Done, Refused}
use Rattle.repair.specs.Repair.{report, RepairAnswer}
use Rattle.repair.specs.One.{OthersAlike}
use Rattle.cards.specs.Cards.{CardAnswer}

-- CardCalls .. G crossed to_come spare: as `Calls` of the repair crate, for one lost tray x, where a done call is a piece or a repair by a card of the group G, by
-- whatever card. Each step is what the call's own contract allows.
pub data CardCalls {A : Type 0} (f : Field A) (l : Layout) (x : ℕ) (helpers shares host start : List ℕ) : ℕ → ℕ → ℕ → List ℕ → Type 0 where
  none : CardCalls f l x helpers shares host start 0 0 (traffic l) start
  piece : {G crossed to_come : ℕ} {spare : List ℕ} → CardCalls f l x helpers shares host start G crossed to_come spare →
      (budget : ℕ) (host' spare' : List ℕ) (g c t : ℕ) →
      ((j : ℕ) → j < layers l → OthersAlike f l x j host host') →
      RepairAnswer f l (x ∷ []) helpers shares host' G budget spare spare' (Done g c t) →
      CardCalls f l x helpers shares host start (G + (report (Done g c t)).groups) (crossed + (report (Done g c t)).crossed) (report (Done g c t)).remaining spare'
  card : {G crossed to_come : ℕ} {spare : List ℕ} → CardCalls f l x helpers shares host start G crossed to_come spare →
      (by host' spare' : List ℕ) (g c t : ℕ) →
      ((j : ℕ) → j < layers l → OthersAlike f l x j host host') →
      CardAnswer f l x helpers by shares host' G spare spare' (Done g c t) →
      CardCalls f l x helpers shares host start (G + (report (Done g c t)).groups) (crossed + (report (Done g c t)).crossed) (report (Done g c t)).remaining spare'
  -- a refused call is given anything besides the spare
  refused_piece : {G crossed to_come : ℕ} {spare : List ℕ} → CardCalls f l x helpers shares host start G crossed to_come spare →
      (l' : Layout) (lost' helpers' shares' host' : List ℕ) (first budget : ℕ) (spare' : List ℕ) (e : ℕ) →
      RepairAnswer f l' lost' helpers' shares' host' first budget spare spare' (Refused e) →
      CardCalls f l x helpers shares host start G crossed to_come spare'
  refused_card : {G crossed to_come : ℕ} {spare : List ℕ} → CardCalls f l x helpers shares host start G crossed to_come spare →
      (l' : Layout) (x' : ℕ) (helpers' card' shares' host' : List ℕ) (group : ℕ) (spare' : List ℕ) (e : ℕ) →
      CardAnswer f l' x' helpers' card' shares' host' group spare spare' (Refused e) →
      CardCalls f l x helpers shares host start G crossed to_come spare'
