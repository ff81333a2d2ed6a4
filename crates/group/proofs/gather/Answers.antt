use Rattle.group.proofs.Spots.{gather_end, gather_more, gather_none}
use Rattle.group.proofs.gather.Goals as goal

pub loop-c-init : goal.loop-c-init
loop-c-init c = gather_none _ _ _ _ _

pub loop-c-preserved : goal.loop-c-preserved
loop-c-preserved c = search gather_more

pub returns : goal.returns
returns c = search gather_end
