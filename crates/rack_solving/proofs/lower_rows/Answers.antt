use Rattle.symbol.proofs.Working.{working}
use Rattle.rack_solving.proofs.Points.{rows_more}
use Rattle.rack_solving.proofs.lower_rows.Goals as goal

pub loop-k-preserved : goal.loop-k-preserved
loop-k-preserved c = search (rows_more working)
