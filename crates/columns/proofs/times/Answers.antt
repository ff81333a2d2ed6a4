use Rattle.std.proofs.Common.{arith}
use Rattle.columns.proofs.Steps.{timing_none, timing_more, timed_of}
use Rattle.columns.proofs.times.Goals as goal

pub loop-t-init : goal.loop-t-init
loop-t-init g c = timing_none g.met.N.FieldNumber.working _ _ _ _ _ _ (rw c.zero.ensures at c.fill.ensures)

pub loop-t-preserved : goal.loop-t-preserved
loop-t-preserved g c =
    timing_more g.met.N.FieldNumber.working _ _ _ _ _ _ _ _ _ c.loop-t.invariant c.shift.ensures.run c.shift.ensures.run_2

pub returns : goal.returns
returns g c = timed_of g.met.N.FieldNumber.working _ _ _ _ _ _ _ c.loop-t.t (omega arith) (omega arith) c.loop-t.invariant
