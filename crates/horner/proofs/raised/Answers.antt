use Rattle.std.proofs.Common.{rules}
use Rattle.symbol.proofs.Working.{working}
use Rattle.horner.proofs.Loops.{scaled_none}
use Rattle.horner.proofs.Doublings.{double_more}
use Rattle.horner.proofs.raised.Goals as goal

pub loop-k-init : goal.loop-k-init
loop-k-init c = scaled_none working _ (search rules)

pub loop-k-preserved : goal.loop-k-preserved
loop-k-preserved c = search double_more
