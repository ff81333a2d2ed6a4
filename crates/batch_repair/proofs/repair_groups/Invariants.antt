use Rattle.symbol.specs.Elem.{gf256}
use Rattle.batch_repair.specs.Inner.{BatchPiece}
use Rattle.batch_repair.proofs.repair_groups.Given as goal

abbrev pub invariant-loop-k : goal.invariant-loop-k
invariant-loop-k l = BatchPiece gf256 l.l l.many l.x l.helpers l.shares l.host l.first l.k l.initial.spare l.spare
