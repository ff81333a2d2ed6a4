use Rattle.box_repair.proofs.Steps.{below_lost, below_kept}
use Rattle.box_repair.proofs.other_below.Goals as goal

pub returns-then-g-place : goal.returns-then-g-place
returns-then-g-place c = below_lost _ _ _ c.if-g-place.true

pub returns : goal.returns
returns c = below_kept _ _ _ c.if-g-place.false
