-- Made by tools/twin.py from crates/batch_repair/proofs/repair_layers/Invariants.antt.
use Rattle.symbol257.specs.Elem.{gf257}
use Rattle.batch_repair.specs.Inner.{GroupRepaired}
use Rattle.batch_repair257.proofs.repair_layers.Given as goal

abbrev pub invariant-loop-b : goal.invariant-loop-b
invariant-loop-b l = GroupRepaired gf257 l.l l.many l.x l.card l.shares l.host l.p l.b l.initial.spare l.spare
