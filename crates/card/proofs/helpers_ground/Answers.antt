use Rattle.card.proofs.Grounds.{stop_4, stop_5, stop_6, pass_6}
use Rattle.layout.proofs.Facts.{size_pos}
use Rattle.card.proofs.helpers_ground.Goals as goal

pub returns-then-not-strictly_rising : goal.returns-then-not-strictly_rising
returns-then-not-strictly_rising c = search stop_4

pub returns-then-helpers-d : goal.returns-then-helpers-d
returns-then-helpers-d c = search stop_5

pub nonzero_div-x : goal.nonzero_div-x
nonzero_div-x c = search size_pos

pub returns-then-not-is_absent : goal.returns-then-not-is_absent
returns-then-not-is_absent c = search stop_6

pub returns : goal.returns
returns c = search pass_6
