use Rattle.symbol257.proofs.Working.{minus_is}
use Rattle.symbol257.proofs.plain.difference.Goals as goal

pub returns : goal.returns
returns c = minus_is _ _
