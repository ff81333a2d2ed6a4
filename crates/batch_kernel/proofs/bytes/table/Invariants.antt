use Rattle.symbol.specs.Elem.{gf256}
use Rattle.batch_kernel.specs.Inner.{Tabled}
use Rattle.batch_kernel.proofs.bytes.table.Given as goal

abbrev pub invariant-loop-j : goal.invariant-loop-j
invariant-loop-j l = Tabled gf256 l.src l.p0 l.p1 l.p2 l.p3 l.to l.j l.initial.tab l.tab
