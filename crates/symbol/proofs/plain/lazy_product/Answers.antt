use Rattle.std.proofs.Common.{arith}
use Rattle.symbol.proofs.Working.{lazy_times}
use Rattle.symbol.proofs.plain.lazy_product.Goals as goal

pub returns : goal.returns
returns c = (lazy_times _ _ _ c.product.ensures, omega arith)
