use Rattle.symbol257.proofs.Working.{working}
use Rattle.planes.proofs.Sums.{summed_none, summed_more, summed_end}
use Rattle.planes.proofs.wide.U16SumRows.combine.Goals as goal

pub loop-t-init : goal.loop-t-init
loop-t-init c = search (summed_none working)

pub loop-t-preserved : goal.loop-t-preserved
loop-t-preserved c = search (summed_more working)

pub returns : goal.returns
returns c = search (summed_end working)
