use Rattle.symbol.specs.Elem.{gf256}
use Rattle.group.specs.Inner.{BlockRepaired}
use Rattle.group.proofs.repair_block.Given as goal

abbrev pub invariant-loop-a : goal.invariant-loop-a
invariant-loop-a l = BlockRepaired gf256 l.l l.h l.lost l.host l.w l.first l.sums l.a l.initial.spare l.spare
