use Rattle.std.proofs.Common.{arith}
use Rattle.nibble.proofs.Shifts.{muly_lt, shift_add_is}
use Rattle.nibble.proofs.shift_add.product.Goals as goal

pub twice-b2-requires : goal.twice-b2-requires
twice-b2-requires c = muly_lt _ (omega arith) c.twice-b1.ensures

pub twice-b3-requires : goal.twice-b3-requires
twice-b3-requires c = muly_lt _ (muly_lt _ (omega arith) c.twice-b1.ensures) c.twice-b2.ensures

pub returns : goal.returns
returns c = search shift_add_is
