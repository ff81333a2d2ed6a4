use Rattle.symbol.specs.Elem.{gf256}
use Rattle.group.specs.Inner.{Growing}
use Rattle.group.proofs.fill_rests.Given as goal

abbrev pub invariant-loop-g : goal.invariant-loop-g
invariant-loop-g l = Growing gf256 l.l l.lost l.host l.w l.a l.r.start l.r.run l.r.stride l.sums l.rests l.g
