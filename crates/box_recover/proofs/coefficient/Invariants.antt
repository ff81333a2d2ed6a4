use Rattle.box_words.proofs.SumLoops.{Sums}
use Rattle.box_recover.proofs.Steps.{coefficient_term}
use Rattle.box_recover.proofs.coefficient.Given as goal

-- the terms before are added up
abbrev pub invariant-loop-x : goal.invariant-loop-x
invariant-loop-x l = Sums (coefficient_term l.word l.j) l.x l.sum
