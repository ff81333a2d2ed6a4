use Rattle.symbol.proofs.Working.{working}
use Rattle.batch_kernel.proofs.Spots.{sixteen_done}
use Rattle.batch_kernel.proofs.bytes.sixteen.Goals as goal

pub returns : goal.returns
returns c = search (sixteen_done working)
