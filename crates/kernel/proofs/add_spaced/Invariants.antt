use Rattle.kernel.specs.Inner.{Spaced, added_spaced}
use Rattle.kernel.proofs.add_spaced.Given as goal

abbrev pub invariant-loop-j : goal.invariant-loop-j
invariant-loop-j g l = let n = g.N.FieldNumber in Spaced (added_spaced n.field (n.codes l.fn.out) l.to l.step (n.codes l.src) l.from l.stride l.gap l.n l.far l.m) (n.codes l.fn.out) (n.codes l.out) l.to l.step l.j
