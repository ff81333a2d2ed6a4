use Rattle.batch_kernel.proofs.Weights.{rung_value, sum_small}
use Rattle.batch_kernel.proofs.bytes.rung.Goals as goal

pub returns : goal.returns
returns c = (search rung_value, search sum_small)
