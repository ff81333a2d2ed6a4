use Rattle.symbol.specs.Elem.{gf256}
use Rattle.kernel.specs.Inner.{Run}
use Rattle.batch_repair.specs.Inner.{lessened}
use Rattle.batch_repair.proofs.subtract.Given as goal

abbrev pub invariant-loop-j : goal.invariant-loop-j
invariant-loop-j l = Run (lessened gf256 l.initial.out l.to l.src l.from) l.initial.out l.out l.to l.j
