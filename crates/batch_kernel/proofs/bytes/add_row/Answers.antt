use Rattle.batch_kernel.proofs.Weights.{row_added}
use Rattle.batch_kernel.proofs.bytes.add_row.Goals as goal

pub returns : goal.returns
returns c = search row_added
