use Rattle.batch_kernel.specs.Inner.{PickedRow}
use Rattle.batch_kernel.proofs.bytes.pick_row.Given as goal

abbrev pub invariant-loop-o : goal.invariant-loop-o
invariant-loop-o l = PickedRow l.g l.at l.wide l.k l.to l.o l.initial.picks l.picks
