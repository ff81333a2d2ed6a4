use Rattle.std.proofs.Common.{refl, arith}
use Rattle.batch_restore.proofs.Rows.{placed_none, placed_more, placed_end}
use Rattle.batch_restore.proofs.places.Goals as goal

pub loop-t-init : goal.loop-t-init
loop-t-init c = placed_none _ _ _ _

pub loop-t-preserved : goal.loop-t-preserved
loop-t-preserved c = placed_more _ _ _ _ _ _ _ _ c.smaller-i.ensures refl (omega arith) c.loop-t.invariant

pub returns : goal.returns
returns c = placed_end _ _ _ _ _ _ _ c.loop-t.invariant (omega arith) (omega arith)
