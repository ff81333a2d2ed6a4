use Rattle.symbol257.proofs.Working.{working}
use Rattle.batch_kernel.proofs.Rows.{row_none, row_next, factor_read, factor_fits, factor_at_fits}
use Rattle.batch_kernel.proofs.wide.sum_row.Goals as goal

pub loop-t-init : goal.loop-t-init
loop-t-init c = search (row_none working)

pub overflow_mul-t : goal.overflow_mul-t
overflow_mul-t c = search factor_fits

pub overflow_add-t : goal.overflow_add-t
overflow_add-t c = search factor_at_fits

pub at-v-requires : goal.at-v-requires
at-v-requires c = search factor_read

pub loop-t-preserved : goal.loop-t-preserved
loop-t-preserved c = search row_next
