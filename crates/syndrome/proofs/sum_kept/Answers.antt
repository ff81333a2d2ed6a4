use Rattle.syndrome.proofs.Sums.{sums_none, sums_more}
use Rattle.syndrome.proofs.sum_kept.Goals as goal

pub loop-x-init : goal.loop-x-init
loop-x-init g c = sums_none g.met.N.FieldNumber.working _ _ _ _ _ _ _ _ _ c.zero.ensures c.fill.ensures

pub loop-x-preserved : goal.loop-x-preserved
loop-x-preserved g c = search (sums_more g.met.N.FieldNumber.working)
