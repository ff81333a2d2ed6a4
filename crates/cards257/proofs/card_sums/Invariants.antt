-- Made by tools/twin.py from crates/cards/proofs/card_sums/Invariants.antt.
use Rattle.symbol257.specs.Elem.{gf257}
use Rattle.cards.specs.Inner.{SumsBelow}
use Rattle.cards257.proofs.card_sums.Given as goal

abbrev pub invariant-loop-b : goal.invariant-loop-b
invariant-loop-b l = SumsBelow gf257 l.fn.l l.card l.shares l.p l.b l.sums
