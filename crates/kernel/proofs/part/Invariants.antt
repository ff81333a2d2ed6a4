use Rattle.kernel.specs.Inner.{Run, parted}
use Rattle.kernel.proofs.part.Given as goal

abbrev pub invariant-loop-j : goal.invariant-loop-j
invariant-loop-j g l = let n = g.N.FieldNumber in Run (parted n.field (n.codes l.fn.out) l.to (n.codes l.src) l.a l.b) (n.codes l.fn.out) (n.codes l.out) l.to l.j
