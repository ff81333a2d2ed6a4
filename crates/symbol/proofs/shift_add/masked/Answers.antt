use Rattle.symbol.proofs.Shifts.{masked_is}
use Rattle.symbol.proofs.shift_add.masked.Goals as goal

pub returns : goal.returns
returns c = search masked_is
