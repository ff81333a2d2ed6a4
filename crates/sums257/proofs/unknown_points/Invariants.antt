-- Made by tools/twin.py from crates/sums/proofs/unknown_points/Invariants.antt.
use Rattle.symbol257.specs.Elem.{gf257}
use Rattle.sums.specs.Inner.{PointsTo}
use Rattle.sums257.proofs.unknown_points.Given as goal

abbrev pub invariant-loop-i : goal.invariant-loop-i
invariant-loop-i l = PointsTo gf257 l.l l.h l.first l.helpers l.v l.run l.i l.points
