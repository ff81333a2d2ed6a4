-- Made by tools/twin.py from crates/batch_restore/proofs/block/Answers.antt.
use Rattle.std.proofs.Common.{rules}
use Rattle.batch_restore.proofs.Rows.{sums_told, padded_told, trays_outputs, wide_room, block_done}
use Rattle.batch_restore257.proofs.block.Goals as goal

pub sum_block-requires : goal.sum_block-requires
sum_block-requires c = (search sums_told, search rules, search padded_told)

pub put_rows-requires : goal.put_rows-requires
put_rows-requires c = (search trays_outputs, search rules, search rules, search wide_room)

pub returns : goal.returns
returns c = search block_done
