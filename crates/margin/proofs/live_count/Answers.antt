use Rattle.std.proofs.Common.{arith}
use Rattle.margin.proofs.Counting.{live_none, live_more, live_fits, live_all, live_few}
use Rattle.margin.proofs.live_count.Goals as goal

pub loop-state-init : goal.loop-state-init
loop-state-init c = live_none _

pub overflow_add-count : goal.overflow_add-count
overflow_add-count c = live_fits _ _ _ c.loop-state.invariant _ c.counted.ensures c.loop-state-test.true c.requires

pub loop-state-preserved : goal.loop-state-preserved
loop-state-preserved c = live_more _ _ _ c.loop-state.invariant _ c.counted.ensures

pub returns : goal.returns
returns c =
    let k = c.loop-state.auto.state-index-end in
    (live_all _ _ _ c.loop-state.invariant (omega arith) k, live_few _ _ _ c.loop-state.invariant k c.requires)
