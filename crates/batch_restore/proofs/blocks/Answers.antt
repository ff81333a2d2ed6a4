use Rattle.std.proofs.Common.{arith, rules}
use Rattle.batch_restore.proofs.Rows.{blocks_none, blocks_more, blocks_end, trays_still, wide_still}
use Rattle.batch_restore.proofs.blocks.Goals as goal

pub loop-b-init : goal.loop-b-init
loop-b-init c = (omega arith, blocks_none _ _ _ _ _ _)

pub block-requires : goal.block-requires
block-requires c = (search trays_still, search wide_still, omega arith, omega arith, search rules, search rules)

pub loop-b-preserved : goal.loop-b-preserved
loop-b-preserved c = (omega arith, search blocks_more)

pub returns : goal.returns
returns c = search blocks_end
