use Rattle.symbol.proofs.Working.{minus_is}
use Rattle.symbol.proofs.plain.difference.Goals as goal

pub returns : goal.returns
returns c = search minus_is
