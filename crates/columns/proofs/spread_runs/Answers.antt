use Rattle.columns.proofs.Rows.{spread_more}
use Rattle.columns.proofs.spread_runs.Goals as goal

pub loop-c-preserved : goal.loop-c-preserved
loop-c-preserved g c = spread_more _ _ _ c.loop-c.c _ _ _ _ c.loop-c.invariant c.at.ensures c.fill.ensures
