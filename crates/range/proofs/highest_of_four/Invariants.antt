use Rattle.range.proofs.Symbols.{Four}
use Rattle.range.proofs.highest_of_four.Given as goal

abbrev pub invariant-loop-k : goal.invariant-loop-k
invariant-loop-k g l = let n = g.N.FieldNumber in Four (n.codes l.xs) l.from l.gap l.k (n.code l.top)
