-- Made by tools/twin.py from crates/pieces/proofs/row_count/Answers.antt.
use Rattle.pieces.proofs.Blocks.{rows_fit, rows_larger}
use Rattle.pieces257.proofs.row_count.Goals as goal

pub overflow_mul-host_sums : goal.overflow_mul-host_sums
overflow_mul-host_sums c = search rows_fit

pub returns : goal.returns
returns c = search rows_larger
