use Rattle.kernel.specs.Inner.{Run, added_grid}
use Rattle.kernel.proofs.add_grid.Given as goal

abbrev pub invariant-loop-j : goal.invariant-loop-j
invariant-loop-j g l = let n = g.N.FieldNumber in Run (added_grid n.field (n.codes l.fn.out) l.to (n.codes l.src) l.from l.gap l.n l.far l.m) (n.codes l.fn.out) (n.codes l.out) l.to l.j
