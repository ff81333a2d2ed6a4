use Rattle.kernel.specs.Inner.{Run, filled}
use Rattle.kernel.proofs.fill.Given as goal

abbrev pub invariant-loop-j : goal.invariant-loop-j
invariant-loop-j g l = let n = g.N.FieldNumber in Run (filled (n.code l.v)) (n.codes l.fn.out) (n.codes l.out) l.to l.j
