use Rattle.symbol.specs.Elem.{gf256}
use Rattle.group.specs.Inner.{Begun}
use Rattle.group.proofs.begin_rests.Given as goal

abbrev pub invariant-loop-m : goal.invariant-loop-m
invariant-loop-m l = Begun gf256 l.w l.m l.s l.a l.sums l.rests
