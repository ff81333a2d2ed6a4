use Rattle.nibble.proofs.Shifts.{twice_is}
use Rattle.nibble.proofs.shift_add.twice.Goals as goal

pub returns : goal.returns
returns c = search twice_is
