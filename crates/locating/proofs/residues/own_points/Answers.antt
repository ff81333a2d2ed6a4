use Rattle.symbol.proofs.Working.{working}
use Rattle.locating.proofs.Parts.{own_points}
use Rattle.locating.proofs.residues.own_points.Goals as goal

pub returns : goal.returns
returns c = search (own_points working)
