use Rattle.std.proofs.Common.{arith}
use Rattle.nibble.proofs.Shifts.{found, nowhere}
use Rattle.nibble.proofs.Nibble.inverse.Goals as goal

pub returns-then-powers-i : goal.returns-then-powers-i
returns-then-powers-i c = search found

pub returns : goal.returns
returns c = nowhere _ c.loop-i.i _ c.all_powers-powers.ensures (omega arith) c.loop-i.invariant
