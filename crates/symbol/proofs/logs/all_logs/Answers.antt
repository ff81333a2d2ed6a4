use Rattle.std.proofs.Common.{sym, refl, ◌∙◌}
use Rattle.symbol.proofs.Tables.{logs, log, log_lt, zpow_log}
use Rattle.symbol.proofs.Working.{zpow_is}
use Rattle.symbol.proofs.logs.all_logs.Goals as goal

pub returns : goal.returns
unfolding logs log
returns c = record { long = refl; below = λ x p h. log_lt p h; at = λ x p h. sym (zpow_is (log x)) ∙ zpow_log p h }
