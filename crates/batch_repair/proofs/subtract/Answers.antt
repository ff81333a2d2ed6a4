use Rattle.kernel.proofs.Runs.{run_none, run_end}
use Rattle.batch_repair.proofs.Rows.{less_more}
use Rattle.batch_repair.proofs.subtract.Goals as goal

pub loop-j-init : goal.loop-j-init
loop-j-init c = run_none _ _ _

pub loop-j-preserved : goal.loop-j-preserved
loop-j-preserved c = search less_more

pub returns : goal.returns
returns c = search run_end
