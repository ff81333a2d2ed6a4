use Rattle.std.proofs.Common.{rules, arith}
use Rattle.symbol.proofs.Working.{working}
use Rattle.batch_factors.proofs.Steps.{factors_none, factors_more, factors_end, solving_row, solving_fits, solving_few, solving_points}
use Rattle.batch_factors.proofs.Steps.{solving_known}
use Rattle.batch_factors.proofs.factor_rows.Goals as goal

pub loop-t-init : goal.loop-t-init
loop-t-init c = factors_none working _ _ _ _ _

pub overflow_mul-t : goal.overflow_mul-t
overflow_mul-t c = search solving_fits

pub at-requires : goal.at-requires
at-requires c = search solving_known

pub factor_row-requires : goal.factor_row-requires
factor_row-requires c = (search solving_row, search rules, omega arith, search solving_few, search solving_points)

pub loop-t-preserved : goal.loop-t-preserved
loop-t-preserved c = search (factors_more working)

pub returns : goal.returns
returns c = search (factors_end working)
