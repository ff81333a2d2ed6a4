use Rattle.symbol.proofs.Working.{working}
use Rattle.cards.proofs.Repair.{below_none, sums_end, sums_more}
use Rattle.cards.proofs.card_sums.Goals as goal

pub loop-b-init : goal.loop-b-init
loop-b-init c = below_none working _ _ _ _ _

pub loop-b-preserved : goal.loop-b-preserved
loop-b-preserved c = search (sums_more working)

pub returns : goal.returns
returns c = search (sums_end working)
