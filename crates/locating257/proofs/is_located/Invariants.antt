-- Made by tools/twin.py from crates/locating/proofs/is_located/Invariants.antt.
use Rattle.symbol257.specs.Elem.{gf257}
use Rattle.std.proofs.Common.{◌≤◌, ◌-◌}
use Rattle.locating.specs.Inner.{PointsAt}
use Rattle.locating257.proofs.is_located.Given as goal

abbrev pub invariant-loop-p : goal.invariant-loop-p
invariant-loop-p l = record { in_range : l.p ≤ l.total; points : PointsAt gf257 l.l l.h l.helpers l.zeroth l.first l.k l.p }

abbrev pub decreases-loop-p : goal.decreases-loop-p
decreases-loop-p l = l.total - l.p
