use Rattle.std.proofs.Common.{rules}
use Rattle.batch_kernel.proofs.Picks.{pick_at_is}
use Rattle.batch_kernel.proofs.bytes.pick_at.Goals as goal

pub returns : goal.returns
returns c = (search pick_at_is, search rules)
