use Rattle.symbol.proofs.Working.{raised_is}
use Rattle.symbol.proofs.plain.power.Goals as goal

pub returns : goal.returns
returns c = search raised_is
