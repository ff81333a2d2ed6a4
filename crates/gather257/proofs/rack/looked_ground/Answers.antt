-- Made by tools/twin.py from crates/gather/proofs/rack/looked_ground/Answers.antt.
use Rattle.gather.proofs.Racks.{looked_lost, looked_told}
use Rattle.gather257.proofs.rack.looked_ground.Goals as goal

pub returns-then-not-is_absent : goal.returns-then-not-is_absent
returns-then-not-is_absent c = search looked_lost

pub returns : goal.returns
returns c = search looked_told
