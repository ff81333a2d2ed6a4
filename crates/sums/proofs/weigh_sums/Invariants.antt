use Rattle.symbol.specs.Elem.{gf256}
use Rattle.sums.specs.Inner.{Weighed}
use Rattle.sums.proofs.weigh_sums.Given as goal

abbrev pub invariant-loop-a : goal.invariant-loop-a
invariant-loop-a l = Weighed gf256 l.l l.h l.w l.m l.a l.found l.initial.sums l.sums
