use Rattle.batch_kernel.proofs.Weights.{rows_more}
use Rattle.batch_kernel.proofs.bytes.add_rows.Goals as goal

pub loop-o-preserved : goal.loop-o-preserved
loop-o-preserved c = search rows_more
