use Rattle.symbol.specs.Elem.{gf256}
use Rattle.batch_factors.specs.Inner.{Inverted}
use Rattle.batch_factors.proofs.invert.Given as goal

abbrev pub invariant-loop-o : goal.invariant-loop-o
invariant-loop-o l = Inverted gf256 l.initial.den l.den l.o
