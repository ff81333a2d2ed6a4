use Rattle.kernel.specs.Inner.{Run, added_multiple}
use Rattle.kernel.proofs.add_multiple.Given as goal

abbrev pub invariant-loop-j : goal.invariant-loop-j
invariant-loop-j g l = let n = g.N.FieldNumber in Run (added_multiple n.field (n.codes l.fn.out) l.to (n.codes l.src) l.from (n.code l.v)) (n.codes l.fn.out) (n.codes l.out) l.to l.j
