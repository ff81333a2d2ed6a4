use Rattle.kernel.specs.Inner.{Run, added}
use Rattle.kernel.proofs.add.Given as goal

abbrev pub invariant-loop-j : goal.invariant-loop-j
invariant-loop-j g l = let n = g.N.FieldNumber in Run (added n.field (n.codes l.fn.out) l.to (n.codes l.src) l.from) (n.codes l.fn.out) (n.codes l.out) l.to l.j
