-- Made by tools/twin.py from crates/batch_factors/proofs/invert/Invariants.antt.
use Rattle.symbol257.specs.Elem.{gf257}
use Rattle.batch_factors.specs.Inner.{Inverted}
use Rattle.batch_factors257.proofs.invert.Given as goal

abbrev pub invariant-loop-o : goal.invariant-loop-o
invariant-loop-o l = Inverted gf257 l.initial.den l.den l.o
