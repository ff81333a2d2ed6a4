use Rattle.std.proofs.Common.{arith}
use Rattle.kernel.proofs.Apart.{block_copied}
use Rattle.kernel.proofs.add_block.Goals as goal

pub whole_as_slice-gather_block : goal.whole_as_slice-gather_block
whole_as_slice-gather_block g c = omega (arith, g.met.N.FieldNumber.narrow)

pub shared_whole_as_slice-copy : goal.shared_whole_as_slice-copy
shared_whole_as_slice-copy g c = omega (arith, g.met.N.FieldNumber.narrow)

pub returns : goal.returns
returns g c = block_copied _ _ _ _ _ _ _ c.gather_block.ensures c.copy.ensures
