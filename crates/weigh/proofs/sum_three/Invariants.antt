use Rattle.kernel.specs.Inner.{Run}
use Rattle.weigh.specs.Inner.{three}
use Rattle.weigh.proofs.sum_three.Given as goal

abbrev pub invariant-loop-j : goal.invariant-loop-j
invariant-loop-j l = Run (three l.src l.from l.gap l.p l.q) l.initial.out l.out 0 l.j
