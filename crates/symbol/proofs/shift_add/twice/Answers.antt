use Rattle.symbol.proofs.Shifts.{twice_is}
use Rattle.symbol.proofs.shift_add.twice.Goals as goal

pub returns : goal.returns
returns c = search twice_is
