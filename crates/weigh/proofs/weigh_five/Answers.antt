use Rattle.weigh.proofs.Weights.{five_none, five_once, five_twice, five_thrice, five_last}
use Rattle.weigh.proofs.weigh_five.Goals as goal

pub returns-in-0 : goal.returns-in-0
returns-in-0 c = search five_none

pub returns-in-1 : goal.returns-in-1
returns-in-1 c = search five_once

pub returns-in-2 : goal.returns-in-2
returns-in-2 c = search five_twice

pub returns-in-3 : goal.returns-in-3
returns-in-3 c = search five_thrice

pub returns-in_default : goal.returns-in_default
returns-in_default c = search five_last
