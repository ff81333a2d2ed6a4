-- Made by tools/twin.py from crates/batch_restore/proofs/list_points/Invariants.antt.
use Rattle.symbol257.specs.Elem.{gf257}
use Rattle.batch_restore.specs.Inner.{ListPoints}
use Rattle.batch_restore257.proofs.list_points.Given as goal

abbrev pub invariant-loop-t : goal.invariant-loop-t
invariant-loop-t l = ListPoints gf257 l.l l.j l.list l.t l.initial.p l.p
