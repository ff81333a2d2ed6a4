use Rattle.gather.proofs.Racks.{OfRackTo}
use Rattle.gather.proofs.rack.of_rack.Given as goal

abbrev pub invariant-loop-x : goal.invariant-loop-x
invariant-loop-x l = OfRackTo l.u l.rack l.lost l.x-index
