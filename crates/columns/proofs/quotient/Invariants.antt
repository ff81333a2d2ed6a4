use Rattle.columns.specs.Inner.{Quotient}
use Rattle.columns.proofs.quotient.Given as goal

abbrev pub invariant-loop-t : goal.invariant-loop-t
invariant-loop-t g l = let n = g.N.FieldNumber in Quotient n.field l.v l.m (n.codes l.points) l.i l.t (n.codes l.out)
