use Rattle.symbol.proofs.Working.{working}
use Rattle.horner.proofs.Loops.{step_join, step_four}
use Rattle.horner.proofs.step.Goals as goal

pub returns-in-1 : goal.returns-in-1
returns-in-1 c = search (step_join working)

pub returns-in-2 : goal.returns-in-2
returns-in-2 c = search (step_join working)

pub returns-in-3 : goal.returns-in-3
returns-in-3 c = search (step_join working)

pub returns-in_default : goal.returns-in_default
returns-in_default c = search (step_four working)
