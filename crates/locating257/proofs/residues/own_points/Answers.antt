-- Made by tools/twin.py from crates/locating/proofs/residues/own_points/Answers.antt.
use Rattle.symbol257.proofs.Working.{working}
use Rattle.locating.proofs.Parts.{own_points}
use Rattle.locating257.proofs.residues.own_points.Goals as goal

pub returns : goal.returns
returns c = search (own_points working)
