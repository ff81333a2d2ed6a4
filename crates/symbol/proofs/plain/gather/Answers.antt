use Rattle.std.proofs.Common.{arith}
use Rattle.symbol.proofs.Working.{lazy_plus}
use Rattle.symbol.proofs.plain.gather.Goals as goal

pub returns : goal.returns
returns c = (lazy_plus _ _ _ c.sum.ensures, λ m k h. omega arith)
