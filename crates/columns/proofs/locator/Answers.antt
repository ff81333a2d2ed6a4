use Rattle.std.proofs.Common.{arith}
use Rattle.columns.proofs.Steps.{locator_start, locator_more}
use Rattle.columns.proofs.locator.Goals as goal

pub loop-q-init : goal.loop-q-init
loop-q-init g c =
    locator_start g.met.N.FieldNumber.working _ _ _ _ _ _ (omega arith) (rw c.one.ensures at c.fill.ensures)
    (rw c.zero.ensures at c.fill-2.ensures)

pub loop-q-preserved : goal.loop-q-preserved
loop-q-preserved g c =
    locator_more g.met.N.FieldNumber.working _ _ _ _ _ _ _ c.loop-q-test.true c.top_row-top.ensures c.loop-q.invariant c.times.ensures
