use Rattle.symbol257.specs.Elem.{gf257}
use Rattle.planes.specs.Inner.{Summed}
use Rattle.planes.proofs.wide.U16SumRows.combine.Given as goal

abbrev pub invariant-loop-t : goal.invariant-loop-t
invariant-loop-t l = Summed gf257 l.w l.t l.i l.sums l.coefs l.at l.initial.found l.found
