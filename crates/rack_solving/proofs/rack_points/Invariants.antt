use Rattle.symbol.specs.Elem.{gf256}
use Rattle.rack_solving.specs.Inner.{RackPoints}
use Rattle.rack_solving.proofs.rack_points.Given as goal

-- the powers for the first i racks
abbrev pub invariant-loop-i : goal.invariant-loop-i
invariant-loop-i l = RackPoints gf256 l.l l.first l.es l.v l.run l.i l.points
