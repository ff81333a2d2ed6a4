use Rattle.planes.specs.Inner.{Upper}
use Rattle.planes.proofs.bytes.U8SumRows.combine.Given as goal

abbrev pub invariant-loop-k : goal.invariant-loop-k
invariant-loop-k l = Upper l.w l.m l.i l.k l.sums l.coefs l.at l.initial.found l.found
