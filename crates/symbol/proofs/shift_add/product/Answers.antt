use Rattle.symbol.proofs.Shifts.{shift_add_is}
use Rattle.symbol.proofs.shift_add.product.Goals as goal

pub returns : goal.returns
returns c = search shift_add_is
