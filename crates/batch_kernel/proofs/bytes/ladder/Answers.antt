use Rattle.batch_kernel.proofs.Weights.{ladder_is}
use Rattle.batch_kernel.proofs.bytes.ladder.Goals as goal

pub returns : goal.returns
returns c = search ladder_is
