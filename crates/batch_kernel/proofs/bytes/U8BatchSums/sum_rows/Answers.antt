use Rattle.batch_kernel.proofs.Told.{summing}
use Rattle.batch_kernel.proofs.bytes.U8BatchSums.sum_rows.Goals as goal

pub sum_all-requires : goal.sum_all-requires
sum_all-requires c = search summing
