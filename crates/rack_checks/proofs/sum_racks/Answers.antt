use Rattle.std.proofs.Common.{arith}
use Rattle.symbol.proofs.Working.{working}
use Rattle.rack_checks.proofs.Above.{above_none, above_more, above_end}
use Rattle.rack_checks.proofs.sum_racks.Goals as goal

pub loop-i-init : goal.loop-i-init
loop-i-init c = search (above_none working)

pub loop-i-preserved : goal.loop-i-preserved
loop-i-preserved c = above_more working _ _ _ _ _ _ _ _ c.loop-i.i (omega arith) (omega arith) c.loop-i.invariant c.raise_rack.ensures

pub returns : goal.returns
returns c = search (above_end working)
