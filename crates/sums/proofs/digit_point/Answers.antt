use Rattle.symbol.proofs.Working.{working}
use Rattle.sums.proofs.Steps.{digit_power, power_wide}
use Rattle.sums.proofs.digit_point.Goals as goal

pub overflow_cast-i : goal.overflow_cast-i
overflow_cast-i c = search power_wide

pub returns : goal.returns
returns c = search (digit_power working)
