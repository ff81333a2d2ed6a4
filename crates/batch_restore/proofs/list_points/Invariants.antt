use Rattle.symbol.specs.Elem.{gf256}
use Rattle.batch_restore.specs.Inner.{ListPoints}
use Rattle.batch_restore.proofs.list_points.Given as goal

abbrev pub invariant-loop-t : goal.invariant-loop-t
invariant-loop-t l = ListPoints gf256 l.l l.j l.list l.t l.initial.p l.p
