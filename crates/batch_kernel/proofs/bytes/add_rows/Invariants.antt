use Rattle.batch_kernel.specs.Inner.{RowsAdded}
use Rattle.batch_kernel.proofs.bytes.add_rows.Given as goal

abbrev pub invariant-loop-o : goal.invariant-loop-o
invariant-loop-o l = RowsAdded l.tab l.picks l.at l.wide l.w l.initial.acc l.acc l.o
