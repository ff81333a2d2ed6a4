use Rattle.symbol.specs.Elem.{gf256}
use Rattle.cards.specs.Inner.{SumsBelow}
use Rattle.cards.proofs.card_sums.Given as goal

abbrev pub invariant-loop-b : goal.invariant-loop-b
invariant-loop-b l = SumsBelow gf256 l.fn.l l.card l.shares l.p l.b l.sums
