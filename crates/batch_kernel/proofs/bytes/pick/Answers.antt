use Rattle.batch_kernel.proofs.Picks.{pick_value, pick_small}
use Rattle.batch_kernel.proofs.bytes.pick.Goals as goal

pub returns : goal.returns
returns c = (search pick_value, search pick_small)
