use Rattle.symbol.proofs.Working.{working}
use Rattle.rack_solving.proofs.Points.{power_row}
use Rattle.rack_solving.proofs.power_row.Goals as goal

pub returns : goal.returns
returns c = search (power_row working)
