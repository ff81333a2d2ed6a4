use Rattle.symbol.proofs.Working.{plus_is}
use Rattle.symbol.proofs.plain.sum.Goals as goal

pub returns : goal.returns
returns c = search plus_is
