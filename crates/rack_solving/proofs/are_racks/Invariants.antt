use Rattle.rack_solving.specs.Inner.{RacksTo}
use Rattle.rack_solving.proofs.are_racks.Given as goal

-- the first i racks of the list are whole
abbrev pub invariant-loop-i : goal.invariant-loop-i
invariant-loop-i l = RacksTo l.l.size l.es l.i
