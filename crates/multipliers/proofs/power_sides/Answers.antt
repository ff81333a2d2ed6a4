use Rattle.symbol.proofs.Working.{working}
use Rattle.multipliers.proofs.Sides.{sides_of}
use Rattle.multipliers.proofs.power_sides.Goals as goal

pub returns : goal.returns
returns c = search (sides_of working)
