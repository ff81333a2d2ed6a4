-- Made by tools/twin.py from crates/sums/proofs/weigh_sums/Invariants.antt.
use Rattle.symbol257.specs.Elem.{gf257}
use Rattle.sums.specs.Inner.{Weighed}
use Rattle.sums257.proofs.weigh_sums.Given as goal

abbrev pub invariant-loop-a : goal.invariant-loop-a
invariant-loop-a l = Weighed gf257 l.l l.h l.w l.m l.a l.found l.initial.sums l.sums
