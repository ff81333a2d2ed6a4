use Rattle.symbol.proofs.Working.{working}
use Rattle.horner.proofs.Loops.{fours_none, fours_more}
use Rattle.horner.proofs.raise_fours.Goals as goal

pub loop-n-init : goal.loop-n-init
loop-n-init c = fours_none working _ _ _

pub loop-n-preserved : goal.loop-n-preserved
loop-n-preserved c = search (fours_more working)
