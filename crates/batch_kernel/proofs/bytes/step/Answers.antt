use Rattle.batch_kernel.proofs.Weights.{step_value, sum_small}
use Rattle.batch_kernel.proofs.bytes.step.Goals as goal

pub returns : goal.returns
returns c = (search step_value, search sum_small)
