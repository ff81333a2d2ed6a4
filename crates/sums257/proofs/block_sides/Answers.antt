-- Made by tools/twin.py from crates/sums/proofs/block_sides/Answers.antt.
use Rattle.symbol257.proofs.Working.{working}
use Rattle.sums.proofs.Sides.{sides_end, sides_more, sides_none}
use Rattle.sums257.proofs.block_sides.Goals as goal

pub loop-k-init : goal.loop-k-init
loop-k-init c = search (sides_none working)

pub loop-k-preserved : goal.loop-k-preserved
loop-k-preserved c = search (sides_more working)

pub returns : goal.returns
returns c = search (sides_end working)
