use Rattle.std.proofs.Common.{arith, sym}
use Rattle.box_recover.proofs.Steps.{survivors_not, survivors_all}
use Rattle.box_recover.proofs.survivors_below.Goals as goal

pub returns-then-not-survivor_at : goal.returns-then-not-survivor_at
returns-then-not-survivor_at c = survivors_not _ _ c.loop-x.x (omega arith) (sym c.if-not-survivor_at.ensures)

pub returns : goal.returns
returns c = survivors_all _ _ c.loop-x.x (omega arith) c.loop-x.invariant
