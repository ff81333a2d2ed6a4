use Rattle.symbol.proofs.Working.{working}
use Rattle.sums.proofs.Rows.{times_of}
use Rattle.sums.proofs.times_row.Goals as goal

pub returns : goal.returns
returns c = search (times_of working)
