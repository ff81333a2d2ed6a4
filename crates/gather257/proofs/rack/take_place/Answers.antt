-- Made by tools/twin.py from crates/gather/proofs/rack/take_place/Answers.antt.
use Rattle.gather.proofs.Racks.{place_lost, place_took}
use Rattle.gather257.proofs.rack.take_place.Goals as goal

pub returns-then-not-is_absent : goal.returns-then-not-is_absent
returns-then-not-is_absent c = search place_lost

pub returns : goal.returns
returns c = search place_took
