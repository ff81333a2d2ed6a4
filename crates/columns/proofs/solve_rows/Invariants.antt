use Rattle.columns.specs.Inner.{Solved}
use Rattle.columns.proofs.solve_rows.Given as goal

abbrev pub invariant-loop-i : goal.invariant-loop-i
invariant-loop-i g l = let n = g.N.FieldNumber in Solved n.field l.w l.v l.run l.m (n.codes l.sums) (n.codes l.points) (n.codes l.found) l.i
