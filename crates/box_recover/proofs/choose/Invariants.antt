use Rattle.lists.proofs.Loops.{Upto}
use Rattle.box_recover.proofs.Steps.{chosen_at}
use Rattle.box_recover.proofs.choose.Given as goal

-- the places before hold what stands at their survivors
abbrev pub invariant-loop-i : goal.invariant-loop-i
invariant-loop-i l = Upto (chosen_at l.erased l.from) l.initial.out l.out l.i
