use Rattle.symbol.specs.Elem.{gf256}
use Rattle.multipliers.specs.Inner.{HelperPoints}
use Rattle.multipliers.proofs.helper_points.Given as goal

abbrev pub invariant-loop-k : goal.invariant-loop-k
invariant-loop-k l = HelperPoints gf256 l.l l.h l.p l.helpers l.k l.row
