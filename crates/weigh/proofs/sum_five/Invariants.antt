use Rattle.kernel.specs.Inner.{Run}
use Rattle.weigh.specs.Inner.{five}
use Rattle.weigh.proofs.sum_five.Given as goal

abbrev pub invariant-loop-j : goal.invariant-loop-j
invariant-loop-j l = Run (five l.src l.from l.gap l.p l.q l.r l.s) l.initial.out l.out 0 l.j
