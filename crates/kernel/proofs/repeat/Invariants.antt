use Rattle.kernel.specs.Inner.{Run, copied}
use Rattle.kernel.proofs.repeat.Given as goal

abbrev pub invariant-loop-j : goal.invariant-loop-j
invariant-loop-j g l = let n = g.N.FieldNumber in Run (copied (n.codes l.fn.out) l.from) (n.codes l.fn.out) (n.codes l.out) l.to l.j
