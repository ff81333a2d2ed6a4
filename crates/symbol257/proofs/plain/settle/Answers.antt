use Rattle.symbol257.proofs.Working.{reduced_is}
use Rattle.symbol257.proofs.plain.settle.Goals as goal

pub returns : goal.returns
returns c = reduced_is _
