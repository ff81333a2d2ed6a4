use Rattle.batch_kernel.proofs.Picks.{four_more}
use Rattle.batch_kernel.proofs.bytes.pick_four.Goals as goal

pub loop-k-preserved : goal.loop-k-preserved
loop-k-preserved c = search four_more
