use Rattle.columns.specs.Inner.{Turned}
use Rattle.columns.proofs.divisors.Given as goal

abbrev pub invariant-loop-k : goal.invariant-loop-k
invariant-loop-k g l = let n = g.N.FieldNumber in Turned n.field l.v l.m (n.codes l.points) l.k (n.codes l.out)
