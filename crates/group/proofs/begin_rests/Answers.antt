use Rattle.symbol.proofs.Working.{working}
use Rattle.group.proofs.Rests.{begin_end, begin_more, begin_none}
use Rattle.group.proofs.begin_rests.Goals as goal

pub loop-m-init : goal.loop-m-init
loop-m-init c = begin_none working _ _ _ _ _

pub loop-m-preserved : goal.loop-m-preserved
loop-m-preserved c = search (begin_more working)

pub returns : goal.returns
returns c = search (begin_end working)
