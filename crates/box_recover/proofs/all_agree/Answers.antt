use Rattle.std.proofs.Common.{arith, sym}
use Rattle.box_recover.proofs.Steps.{agrees_not, agrees_all}
use Rattle.box_recover.proofs.all_agree.Goals as goal

pub returns-then-not-agrees_at : goal.returns-then-not-agrees_at
returns-then-not-agrees_at c = agrees_not _ _ _ c.loop-x.x (omega arith) (sym c.if-not-agrees_at.ensures)

pub returns : goal.returns
returns c = agrees_all _ _ _ c.loop-x.x (omega arith) c.loop-x.invariant
