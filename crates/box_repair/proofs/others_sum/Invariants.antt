use Rattle.box_words.proofs.SumLoops.{Sums}
use Rattle.box_repair.proofs.Steps.{other_term}
use Rattle.box_repair.proofs.others_sum.Given as goal

-- the values before are added up, the lost one as zero
abbrev pub invariant-loop-g : goal.invariant-loop-g
invariant-loop-g l = Sums (other_term l.place l.rack) l.g l.sum
