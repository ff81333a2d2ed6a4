use Rattle.symbol.specs.Elem.{gf256}
use Rattle.std.proofs.Common.{ℕ, ◌<◌}
use Rattle.layout.specs.Layout.{groups}
use Rattle.locating.specs.Inner.{PointsAt}
use Rattle.locating.proofs.first_located.Given as goal

abbrev pub invariant-loop-k : goal.invariant-loop-k
invariant-loop-k l = (i : ℕ) → i < l.k → ¬ (PointsAt gf256 l.l l.h l.helpers l.zeroth l.first i (groups l.l))
