use Rattle.symbol257.proofs.Working.{gathered}
use Rattle.symbol257.proofs.plain.gather.Goals as goal

pub returns : goal.returns
returns c = (gathered _ _, λ m k h. h)
