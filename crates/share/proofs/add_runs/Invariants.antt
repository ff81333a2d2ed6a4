use Rattle.symbol.specs.Elem.{gf256}
use Rattle.share.specs.Inner.{TraysAdded}
use Rattle.share.proofs.add_runs.Given as goal

abbrev pub invariant-loop-q : goal.invariant-loop-q
invariant-loop-q l = TraysAdded gf256 l.s l.run l.q l.symbols l.at l.far l.m l.initial.sums l.sums
