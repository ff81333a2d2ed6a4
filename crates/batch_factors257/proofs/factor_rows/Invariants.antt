-- Made by tools/twin.py from crates/batch_factors/proofs/factor_rows/Invariants.antt.
use Rattle.symbol257.specs.Elem.{gf257}
use Rattle.batch_factors.specs.Inner.{Factored}
use Rattle.batch_factors257.proofs.factor_rows.Given as goal

abbrev pub invariant-loop-t : goal.invariant-loop-t
invariant-loop-t l = Factored gf257 l.known l.points l.s l.wide l.t l.initial.g l.g
