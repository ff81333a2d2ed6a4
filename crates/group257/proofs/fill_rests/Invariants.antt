-- Made by tools/twin.py from crates/group/proofs/fill_rests/Invariants.antt.
use Rattle.symbol257.specs.Elem.{gf257}
use Rattle.group.specs.Inner.{Growing}
use Rattle.group257.proofs.fill_rests.Given as goal

abbrev pub invariant-loop-g : goal.invariant-loop-g
invariant-loop-g l = Growing gf257 l.l l.lost l.host l.w l.a l.r.start l.r.run l.r.stride l.sums l.rests l.g
