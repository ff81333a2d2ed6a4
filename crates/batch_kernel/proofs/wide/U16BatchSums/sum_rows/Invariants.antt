use Rattle.std.proofs.Common.{◌/◌, length}
use Rattle.symbol257.specs.Elem.{gf257}
use Rattle.batch_kernel.specs.Inner.{Summed}
use Rattle.batch_kernel.specs.Wide.{weight_at}
use Rattle.batch_kernel.proofs.wide.U16BatchSums.sum_rows.Given as goal

abbrev pub invariant-loop-o : goal.invariant-loop-o
invariant-loop-o l = Summed gf257 (weight_at gf257 l.picks l.wide) l.src l.at l.first l.w l.o (length l.at / 8) l.initial.acc l.acc
