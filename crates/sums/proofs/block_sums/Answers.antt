use Rattle.symbol.proofs.Working.{working}
use Rattle.sums.proofs.Rows.{weights_end, weights_none}
use Rattle.sums.proofs.block_sums.Goals as goal

pub loop-m-init : goal.loop-m-init
loop-m-init c = weights_none working _ _ _ _ _ _ _ _

pub returns : goal.returns
returns c = search (weights_end working)
