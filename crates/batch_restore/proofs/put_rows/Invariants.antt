use Rattle.batch_restore.specs.Inner.{PutRows}
use Rattle.batch_restore.proofs.put_rows.Given as goal

abbrev pub invariant-loop-o : goal.invariant-loop-o
invariant-loop-o l = PutRows l.es l.gap l.first l.w l.acc l.initial.c l.c l.o
