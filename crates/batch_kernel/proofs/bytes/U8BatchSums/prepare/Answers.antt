use Rattle.batch_kernel.proofs.Told.{ready, weighs}
use Rattle.batch_kernel.proofs.bytes.U8BatchSums.prepare.Goals as goal

pub returns-clause-ready : goal.returns-clause-ready
returns-clause-ready c = search ready

pub returns-clause-weighs : goal.returns-clause-weighs
returns-clause-weighs c = search weighs
