use Rattle.symbol.specs.Elem.{gf256}
use Rattle.sums.specs.Inner.{PointsTo}
use Rattle.sums.proofs.unknown_points.Given as goal

abbrev pub invariant-loop-i : goal.invariant-loop-i
invariant-loop-i l = PointsTo gf256 l.l l.h l.first l.helpers l.v l.run l.i l.points
