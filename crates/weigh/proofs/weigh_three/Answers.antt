use Rattle.weigh.proofs.Weights.{three_none, three_once, three_turn}
use Rattle.weigh.proofs.weigh_three.Goals as goal

pub returns-in-0 : goal.returns-in-0
returns-in-0 c = search three_none

pub returns-in-1 : goal.returns-in-1
returns-in-1 c = search three_once

pub returns-in_default : goal.returns-in_default
returns-in_default c = search three_turn
