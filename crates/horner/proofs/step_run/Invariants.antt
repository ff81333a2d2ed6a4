use Rattle.symbol.specs.Elem.{gf256}
use Rattle.kernel.specs.Inner.{Run}
use Rattle.horner.specs.Inner.{stepped_run}
use Rattle.horner.proofs.step_run.Given as goal

abbrev pub invariant-loop-j : goal.invariant-loop-j
invariant-loop-j l = Run (stepped_run gf256 l.initial.out l.to l.cur l.row l.p l.t) l.initial.out l.out l.to l.j
