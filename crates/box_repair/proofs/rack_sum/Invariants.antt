use Rattle.box_words.proofs.SumLoops.{Sums}
use Rattle.box_repair.proofs.Steps.{value_term}
use Rattle.box_repair.proofs.rack_sum.Given as goal

-- the values before are added up
abbrev pub invariant-loop-v : goal.invariant-loop-v
invariant-loop-v l = Sums (value_term l.vs) l.v-index l.sum
