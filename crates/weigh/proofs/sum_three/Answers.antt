use Rattle.weigh.proofs.Bits.{three_more}
use Rattle.weigh.proofs.sum_three.Goals as goal

pub loop-j-preserved : goal.loop-j-preserved
loop-j-preserved c = search three_more
