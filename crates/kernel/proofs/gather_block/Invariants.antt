use Rattle.kernel.specs.Inner.{Run, added_grid}
use Rattle.kernel.proofs.gather_block.Given as goal

abbrev pub invariant-loop-j : goal.invariant-loop-j
invariant-loop-j g l = let n = g.N.FieldNumber in Run (added_grid n.field (n.codes l.out) l.to (n.codes l.src) l.from l.gap l.n l.far l.m) (n.codes l.fn.block) (n.codes l.block) 0 l.j
