use Rattle.symbol.specs.Elem.{gf256}
use Rattle.batch_repair.specs.Inner.{GroupRepaired}
use Rattle.batch_repair.proofs.repair_layers.Given as goal

abbrev pub invariant-loop-b : goal.invariant-loop-b
invariant-loop-b l = GroupRepaired gf256 l.l l.many l.x l.card l.shares l.host l.p l.b l.initial.spare l.spare
