use Rattle.syndrome.specs.Inner.{Sums}
use Rattle.syndrome.proofs.sum_kept.Given as goal

-- the sums over the trays below x
abbrev pub invariant-loop-x : goal.invariant-loop-x
invariant-loop-x g l = let n = g.N.FieldNumber in Sums n.field l.l l.w l.first l.r (n.codes l.c) l.es l.x (n.codes l.sums)
