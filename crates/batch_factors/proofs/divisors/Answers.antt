use Rattle.symbol.proofs.Working.{working, minus_one_is}
use Rattle.batch_factors.proofs.Steps.{divided}
use Rattle.batch_factors.proofs.divisors.Goals as goal

pub returns : goal.returns
returns c = search (divided working, minus_one_is)
