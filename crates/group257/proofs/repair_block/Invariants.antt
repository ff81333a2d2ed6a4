-- Made by tools/twin.py from crates/group/proofs/repair_block/Invariants.antt.
use Rattle.symbol257.specs.Elem.{gf257}
use Rattle.group.specs.Inner.{BlockRepaired}
use Rattle.group257.proofs.repair_block.Given as goal

abbrev pub invariant-loop-a : goal.invariant-loop-a
invariant-loop-a l = BlockRepaired gf257 l.l l.h l.lost l.host l.w l.first l.sums l.a l.initial.spare l.spare
