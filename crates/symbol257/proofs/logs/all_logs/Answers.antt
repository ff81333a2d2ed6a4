use Rattle.std.proofs.Common.{refl, ◌∙◌}
use Rattle.symbol257.proofs.Tables.{logs, log, log_below, power_log, power_is}
use Rattle.symbol257.proofs.logs.all_logs.Goals as goal

pub returns : goal.returns
unfolding logs log
returns c = record { long = refl; below = log_below; at = λ x p h. power_is (log x) ∙ power_log x p h }
