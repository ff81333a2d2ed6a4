use Rattle.symbol.specs.Elem.{gf256}
use Rattle.batch_factors.specs.Inner.{Factored}
use Rattle.batch_factors.proofs.factor_rows.Given as goal

abbrev pub invariant-loop-t : goal.invariant-loop-t
invariant-loop-t l = Factored gf256 l.known l.points l.s l.wide l.t l.initial.g l.g
