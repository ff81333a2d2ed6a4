use Rattle.symbol.proofs.Working.{working}
use Rattle.batch_kernel.proofs.Spots.{quarter_done}
use Rattle.batch_kernel.proofs.bytes.quarter.Goals as goal

pub returns : goal.returns
returns c = quarter_done working _ _ _ _ _ _ _ _ _ c.requires c.sum.ensures c.sum-2.ensures c.sum-4.ensures c.sum-3.ensures
