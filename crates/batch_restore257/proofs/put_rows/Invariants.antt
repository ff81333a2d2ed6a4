-- Made by tools/twin.py from crates/batch_restore/proofs/put_rows/Invariants.antt.
use Rattle.batch_restore.specs.Inner.{PutRows}
use Rattle.batch_restore257.proofs.put_rows.Given as goal

abbrev pub invariant-loop-o : goal.invariant-loop-o
invariant-loop-o l = PutRows l.es l.gap l.first l.w l.acc l.initial.c l.c l.o
