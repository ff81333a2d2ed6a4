use Rattle.symbol.proofs.Working.{working}
use Rattle.batch_factors.proofs.Steps.{row_of}
use Rattle.batch_factors.proofs.factor_row.Goals as goal

pub returns : goal.returns
returns c = search (row_of working)
