use Rattle.symbol.proofs.Working.{lazy_plus}
use Rattle.symbol.proofs.plain.lazy_sum.Goals as goal

pub returns : goal.returns
returns c = lazy_plus _ _ _ c.sum.ensures
