-- In a list of repairs over one spare a card's repair of group G may stand for the piece that does group G alone: the cutting claim holds for lists of both.
-- Assumes nothing.
use mathlib.Core.Path.{sym, subst}
use mathlib.Core.List.{List, [], ◌∷◌}
use Prim.Native.Nat.{ℕ, ◌<◌}
use native.Mathlib.Nat.{one-mul}
use native.Mathlib.Omega.{arith}
use Rattle.algebra.specs.Shape.{Field}
use Rattle.algebra.specs.Plain.{Working}
use Rattle.layout.specs.declared.Layout.{Layout}
use Rattle.layout.specs.Layout.{layers, traffic, AdmissibleWith}
use Rattle.rule.specs.Rule.{Helpers}
use Rattle.rule.specs.Lost.{lost_place, SoundAlike}
use Rattle.repair.specs.Calls.{Calls, done, refused}
use Rattle.repair.specs.One.{OthersAlike, CutOne}
use Rattle.repair.proofs.Single.{cutting_one}
use Rattle.cards.specs.CardCalls.{CardCalls, piece, card, refused_piece, refused_card}

module _ {A : Type 0} (f : Field A) (l : Layout) (x : ℕ) (helpers shares host start : List ℕ) where
  sound : (host' : List ℕ) → ((j : ℕ) → j < layers l → OthersAlike f l x j host host') → (j : ℕ) → j < layers l → SoundAlike f l (x ∷ []) j host host'
  unfolding lost_place
  sound host' alike j hj g hg out = alike j hj g hg (out 0 (omega arith))

  pub as_pieces : {G crossed to_come : ℕ} {spare : List ℕ} → CardCalls f l x helpers shares host start G crossed to_come spare →
      Calls f l (x ∷ []) helpers shares host start G crossed to_come spare
  as_pieces CardCalls.none = subst (λ n. Calls f l (x ∷ []) helpers shares host start 0 0 n start) (one-mul (traffic l)) Calls.none
  as_pieces (piece before budget host' spare' g c t alike r) = done (as_pieces before) budget host' spare' g c t (sound host' alike) r
  as_pieces (card before by host' spare' g c t alike r) = done (as_pieces before) 1 host' spare' g c t (sound host' alike) r.piece
  as_pieces (refused_piece before l' lost' helpers' shares' host' first budget spare' e r) = refused (as_pieces before) l' lost' helpers' shares' host' first budget spare' e r
  as_pieces (refused_card {G = G} {crossed = k} {to_come = m} before l' x' helpers' card' shares' host' group spare' e r) =
      subst (λ y. Calls f l (x ∷ []) helpers shares host start G k m y) (sym r.kept) (as_pieces before)

-- the cutting claim for a list of pieces and cards
pub cards_cutting : {A : Type 0} {f : Field A} (W : Working f) (l : Layout) → AdmissibleWith f.order 0 l → (x : ℕ) (helpers shares host : List ℕ) →
    Helpers l x helpers → (start : List ℕ) →
    {G crossed to_come : ℕ} {spare : List ℕ} → CardCalls f l x helpers shares host start G crossed to_come spare → CutOne f l x helpers shares host start G crossed to_come spare
cards_cutting {f = f} W l a x helpers shares host help start calls = cutting_one W l a x helpers shares host help start (as_pieces f l x helpers shares host start calls)
