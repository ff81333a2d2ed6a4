use Rattle.syndrome.proofs.Points.{power_run_start, power_run_value, power_run_none, power_run_more}
use Rattle.syndrome.proofs.power_runs.Goals as goal

pub loop-a-init : goal.loop-a-init
loop-a-init g c = let w = g.met.N.FieldNumber.working in record { next = power_run_start w _ _; runs = power_run_none w _ _ _ _ }

pub loop-a-preserved : goal.loop-a-preserved
loop-a-preserved g c = let w = g.met.N.FieldNumber.working in record { next = search (power_run_value w); runs = search (power_run_more w) }
