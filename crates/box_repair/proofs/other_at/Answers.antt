use Rattle.box_repair.proofs.Steps.{other_lost, other_kept}
use Rattle.box_repair.proofs.other_at.Goals as goal

pub returns-then-g-place : goal.returns-then-g-place
returns-then-g-place c = other_lost _ _ _ c.if-g-place.true

pub returns : goal.returns
returns c = other_kept _ _ _ c.if-g-place.false
