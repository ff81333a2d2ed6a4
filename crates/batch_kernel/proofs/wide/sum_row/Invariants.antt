use Rattle.symbol257.specs.Elem.{gf257}
use Rattle.kernel.specs.Inner.{Run}
use Rattle.batch_kernel.specs.Wide.{weight_at}
use Rattle.batch_kernel.specs.Inner.{row_of}
use Rattle.batch_kernel.proofs.wide.sum_row.Given as goal

abbrev pub invariant-loop-t : goal.invariant-loop-t
invariant-loop-t l = Run (row_of gf257 (weight_at gf257 l.picks l.wide) l.src l.at l.o l.t) l.initial.acc l.acc l.to l.w
