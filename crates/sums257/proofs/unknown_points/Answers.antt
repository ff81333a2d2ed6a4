-- Made by tools/twin.py from crates/sums/proofs/unknown_points/Answers.antt.
use Rattle.symbol257.proofs.Working.{working}
use Rattle.sums.proofs.Points.{points_end, points_more, points_none}
use Rattle.sums257.proofs.unknown_points.Goals as goal

pub loop-i-init : goal.loop-i-init
loop-i-init c = search (points_none working)

pub loop-i-preserved : goal.loop-i-preserved
loop-i-preserved c = search (points_more working)

pub returns : goal.returns
returns c = search (points_end working)
