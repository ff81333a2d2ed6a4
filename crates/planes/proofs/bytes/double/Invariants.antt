use Rattle.kernel.specs.Inner.{Run}
use Rattle.planes.specs.Inner.{doubled}
use Rattle.planes.proofs.bytes.double.Given as goal

abbrev pub invariant-loop-j : goal.invariant-loop-j
invariant-loop-j l = Run (doubled l.initial.out l.to) l.initial.out l.out l.to l.j
