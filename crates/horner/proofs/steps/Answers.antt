use Rattle.symbol.proofs.Working.{working}
use Rattle.horner.proofs.Loops.{steps_end}
use Rattle.horner.proofs.Doublings.{steps_more}
use Rattle.horner.proofs.steps.Goals as goal

pub loop-a-preserved : goal.loop-a-preserved
loop-a-preserved c = search steps_more

pub returns : goal.returns
returns c = search (steps_end working)
