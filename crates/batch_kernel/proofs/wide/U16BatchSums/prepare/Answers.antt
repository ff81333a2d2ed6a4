use Rattle.batch_kernel.proofs.Rows.{weighs}
use Rattle.batch_kernel.proofs.wide.U16BatchSums.prepare.Goals as goal

pub returns-clause-weighs : goal.returns-clause-weighs
returns-clause-weighs c = search weighs
