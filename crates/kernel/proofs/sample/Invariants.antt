use Rattle.kernel.specs.Inner.{Run, sampled}
use Rattle.kernel.proofs.sample.Given as goal

abbrev pub invariant-loop-j : goal.invariant-loop-j
invariant-loop-j g l = let n = g.N.FieldNumber in Run (sampled (n.codes l.src) l.step) (n.codes l.fn.out) (n.codes l.out) l.to l.j
