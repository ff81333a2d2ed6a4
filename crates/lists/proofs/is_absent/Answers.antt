use Rattle.std.proofs.Common.{arith, below_none, below_more}
use Rattle.lists.proofs.Numbered.{absent_false, absent_true}
use Rattle.lists.proofs.is_absent.Goals as goal

pub loop-x-init : goal.loop-x-init
loop-x-init c = below_none _

pub loop-x-preserved : goal.loop-x-preserved
loop-x-preserved c = below_more _ _ c.loop-x.invariant c.if-x-n.false

pub returns-then-x-n : goal.returns-then-x-n
returns-then-x-n c = absent_false _ _ c.loop-x.x-index c.loop-x-test.true c.if-x-n.true

pub returns : goal.returns
returns c = absent_true _ _ (λ i h. c.loop-x.invariant i (omega arith))
