use Rattle.symbol.proofs.Working.{working}
use Rattle.horner.proofs.Loops.{step_more}
use Rattle.horner.proofs.step_run.Goals as goal

pub loop-j-preserved : goal.loop-j-preserved
loop-j-preserved c = search (step_more working)
