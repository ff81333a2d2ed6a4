use Rattle.std.proofs.Common.{arith}
use Rattle.symbol257.proofs.Working.{lazy_plus}
use Rattle.symbol257.proofs.plain.lazy_sum.Goals as goal

pub returns : goal.returns
returns c = lazy_plus _ _ (omega arith)
