use Rattle.weigh.proofs.Bits.{five_more}
use Rattle.weigh.proofs.sum_five.Goals as goal

pub loop-j-preserved : goal.loop-j-preserved
loop-j-preserved c = search five_more
