use Rattle.batch_kernel.proofs.Picks.{all_more}
use Rattle.batch_kernel.proofs.bytes.prepare_fours.Goals as goal

pub loop-q-preserved : goal.loop-q-preserved
loop-q-preserved c = search all_more
