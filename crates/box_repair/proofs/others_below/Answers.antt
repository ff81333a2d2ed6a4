use Rattle.std.proofs.Common.{arith, sym}
use Rattle.box_repair.proofs.Steps.{others_not, others_all}
use Rattle.box_repair.proofs.others_below.Goals as goal

pub returns-then-not-other_below : goal.returns-then-not-other_below
returns-then-not-other_below c = others_not _ _ c.loop-g.g (omega arith) (sym c.if-not-other_below.ensures)

pub returns : goal.returns
returns c = others_all _ _ c.loop-g.g (omega arith) c.loop-g.invariant
