-- Made by tools/twin.py from crates/multipliers/proofs/helper_points/Invariants.antt.
use Rattle.symbol257.specs.Elem.{gf257}
use Rattle.multipliers.specs.Inner.{HelperPoints}
use Rattle.multipliers257.proofs.helper_points.Given as goal

abbrev pub invariant-loop-k : goal.invariant-loop-k
invariant-loop-k l = HelperPoints gf257 l.l l.h l.p l.helpers l.k l.row
