use Rattle.symbol.specs.Elem.{gf256}
use Rattle.kernel.specs.Inner.{Run}
use Rattle.batch_factors.specs.Inner.{step_at}
use Rattle.batch_factors.proofs.times_step.Given as goal

abbrev pub invariant-loop-j : goal.invariant-loop-j
invariant-loop-j l = Run (step_at gf256 l.initial.g l.to l.xs l.v) l.initial.g l.g l.to l.j
