use Rattle.symbol.proofs.Working.{working}
use Rattle.batch_kernel.proofs.Weights.{sums_none, sums_more}
use Rattle.batch_kernel.proofs.bytes.sum_all.Goals as goal

pub loop-q-init : goal.loop-q-init
loop-q-init c = search (sums_none working)

pub loop-q-preserved : goal.loop-q-preserved
loop-q-preserved c = search (sums_more working)
