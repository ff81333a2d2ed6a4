use Rattle.std.proofs.Common.{arith}
use Rattle.columns.proofs.Rows.{spread_one}
use Rattle.columns.proofs.spread.Goals as goal

pub returns-then-run-eq1 : goal.returns-then-run-eq1
returns-then-run-eq1 g c = spread_one _ _ _ _ _ _ (omega arith) c.copy.ensures
