use Rattle.nibble.specs.Elem.{elem}
use Rattle.box_words.proofs.SumLoops.{Sums}
use Rattle.box_recover.proofs.Steps.{through_term}
use Rattle.box_recover.proofs.lagrange.through.Given as goal

-- the terms before are added up
abbrev pub invariant-loop-i : goal.invariant-loop-i
invariant-loop-i l = Sums (through_term l.points l.values (elem l.x)) l.i l.sum
