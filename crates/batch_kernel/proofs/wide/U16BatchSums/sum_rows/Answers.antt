use Rattle.batch_kernel.proofs.Rows.{sums_more}
use Rattle.batch_kernel.proofs.wide.U16BatchSums.sum_rows.Goals as goal

pub loop-o-preserved : goal.loop-o-preserved
loop-o-preserved c = search sums_more
