use Rattle.symbol.proofs.Working.{working}
use Rattle.horner.proofs.Loops.{raise_more}
use Rattle.horner.proofs.raise_run.Goals as goal

pub loop-j-preserved : goal.loop-j-preserved
loop-j-preserved c = search (raise_more working)
