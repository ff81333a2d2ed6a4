-- Made by tools/twin.py from crates/batch_factors/proofs/divisors/Answers.antt.
use Rattle.symbol257.proofs.Working.{working, minus_one_is}
use Rattle.batch_factors.proofs.Steps.{divided}
use Rattle.batch_factors257.proofs.divisors.Goals as goal

pub returns : goal.returns
returns c = search (divided working, minus_one_is)
