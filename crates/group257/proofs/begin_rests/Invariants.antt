-- Made by tools/twin.py from crates/group/proofs/begin_rests/Invariants.antt.
use Rattle.symbol257.specs.Elem.{gf257}
use Rattle.group.specs.Inner.{Begun}
use Rattle.group257.proofs.begin_rests.Given as goal

abbrev pub invariant-loop-m : goal.invariant-loop-m
invariant-loop-m l = Begun gf257 l.w l.m l.s l.a l.sums l.rests
