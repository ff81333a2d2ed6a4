use Rattle.symbol.specs.Elem.{gf256}
use Rattle.share.specs.Inner.{Rested}
use Rattle.share.proofs.add_rest.Given as goal

abbrev pub invariant-loop-k : goal.invariant-loop-k
invariant-loop-k l = Rested gf256 l.l l.count l.h l.x l.symbols l.at l.k l.initial.shares l.shares
