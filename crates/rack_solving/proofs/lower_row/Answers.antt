use Rattle.symbol.proofs.Working.{working}
use Rattle.rack_solving.proofs.Points.{row_kept, row_lowered}
use Rattle.rack_solving.proofs.lower_row.Goals as goal

pub returns-then-m-eq0 : goal.returns-then-m-eq0
returns-then-m-eq0 c = search (row_kept working)

pub returns : goal.returns
returns c = search (row_lowered working)
