-- Made by tools/twin.py from crates/group/proofs/scatter/Answers.antt.
use Rattle.group.proofs.Spots.{scatter_end, scatter_more, scatter_none}
use Rattle.group257.proofs.scatter.Goals as goal

pub loop-c-init : goal.loop-c-init
loop-c-init c = scatter_none _ _ _ _ _ _

pub loop-c-preserved : goal.loop-c-preserved
loop-c-preserved c = search scatter_more

pub returns : goal.returns
returns c = search scatter_end
