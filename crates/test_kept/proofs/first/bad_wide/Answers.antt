use Rattle.std.proofs.Common.{rules}
use Rattle.test_kept.proofs.Blocks.{width_some, all_blocks, all_unfit, widest}
use Rattle.test_kept.proofs.first.bad_wide.Goals as goal

pub nonzero_div-total : goal.nonzero_div-total
nonzero_div-total c = search width_some

pub bad_block-requires : goal.bad_block-requires
bad_block-requires c = (search all_blocks, search rules, search all_unfit)

pub returns : goal.returns
returns c = search widest
