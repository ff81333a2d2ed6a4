use Rattle.symbol.proofs.Working.{working}
use Rattle.batch_factors.proofs.Steps.{inverted_none, inverted_more, inverted_end}
use Rattle.batch_factors.proofs.invert.Goals as goal

pub loop-o-init : goal.loop-o-init
loop-o-init c = inverted_none working _

pub loop-o-preserved : goal.loop-o-preserved
loop-o-preserved c = search (inverted_more working)

pub returns : goal.returns
returns c = search (inverted_end working)
