use Rattle.symbol.specs.Elem.{gf256}
use Rattle.batch_kernel.specs.Ready.{weight_at}
use Rattle.batch_kernel.specs.Inner.{Summed}
use Rattle.batch_kernel.proofs.bytes.sum_all.Given as goal

abbrev pub invariant-loop-q : goal.invariant-loop-q
invariant-loop-q l = Summed gf256 (weight_at gf256 l.picks l.wide) l.src l.at l.first l.w l.rows l.q l.initial.acc l.acc
