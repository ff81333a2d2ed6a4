use Rattle.range.specs.Inner.{Highest}
use Rattle.range.proofs.highest.Given as goal

abbrev pub invariant-loop-k : goal.invariant-loop-k
invariant-loop-k g l = let n = g.N.FieldNumber in Highest (n.codes l.xs) l.from l.k (n.code l.top)
