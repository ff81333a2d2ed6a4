use Rattle.columns.specs.Inner.{Locator}
use Rattle.columns.proofs.locator.Given as goal

abbrev pub invariant-loop-q : goal.invariant-loop-q
invariant-loop-q g l = let n = g.N.FieldNumber in Locator n.field l.v l.m (n.codes l.points) l.q (n.codes l.out)
