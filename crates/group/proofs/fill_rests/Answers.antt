use Rattle.symbol.proofs.Working.{working}
use Rattle.group.proofs.Rests.{grow_end, grow_more, grow_none}
use Rattle.group.proofs.fill_rests.Goals as goal

pub loop-g-init : goal.loop-g-init
loop-g-init c = search (grow_none working)

pub loop-g-preserved : goal.loop-g-preserved
loop-g-preserved c = search (grow_more working)

pub returns : goal.returns
returns c = search (grow_end working)
