use Rattle.symbol.proofs.Working.{times_is}
use Rattle.symbol.proofs.plain.product.Goals as goal

pub returns : goal.returns
returns c = search times_is
