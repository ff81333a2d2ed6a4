use Rattle.batch_kernel.proofs.Weights.{eight_done}
use Rattle.batch_kernel.proofs.bytes.eight.Goals as goal

pub returns : goal.returns
returns c = search eight_done
