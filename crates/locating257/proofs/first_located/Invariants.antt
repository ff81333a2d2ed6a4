-- Made by tools/twin.py from crates/locating/proofs/first_located/Invariants.antt.
use Rattle.symbol257.specs.Elem.{gf257}
use Rattle.std.proofs.Common.{ℕ, ◌<◌}
use Rattle.layout.specs.Layout.{groups}
use Rattle.locating.specs.Inner.{PointsAt}
use Rattle.locating257.proofs.first_located.Given as goal

abbrev pub invariant-loop-k : goal.invariant-loop-k
invariant-loop-k l = (i : ℕ) → i < l.k → ¬ (PointsAt gf257 l.l l.h l.helpers l.zeroth l.first i (groups l.l))
