use Rattle.symbol257.proofs.Working.{plus_is}
use Rattle.symbol257.proofs.plain.sum.Goals as goal

pub returns : goal.returns
returns c = plus_is _ _
