-- Made by tools/twin.py from crates/multipliers/proofs/power_sides/Answers.antt.
use Rattle.symbol257.proofs.Working.{working}
use Rattle.multipliers.proofs.Sides.{sides_of}
use Rattle.multipliers257.proofs.power_sides.Goals as goal

pub returns : goal.returns
returns c = search (sides_of working)
