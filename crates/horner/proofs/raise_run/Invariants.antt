use Rattle.symbol.specs.Elem.{gf256}
use Rattle.kernel.specs.Inner.{Run}
use Rattle.horner.specs.Inner.{scaled_run}
use Rattle.horner.proofs.raise_run.Given as goal

abbrev pub invariant-loop-j : goal.invariant-loop-j
invariant-loop-j l = Run (scaled_run gf256 l.initial.out l.to l.t) l.initial.out l.out l.to l.j
