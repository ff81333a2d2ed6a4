-- Made by tools/twin.py from crates/gather/proofs/rack/of_rack/Invariants.antt.
use Rattle.gather.proofs.Racks.{OfRackTo}
use Rattle.gather257.proofs.rack.of_rack.Given as goal

abbrev pub invariant-loop-x : goal.invariant-loop-x
invariant-loop-x l = OfRackTo l.u l.rack l.lost l.x-index
