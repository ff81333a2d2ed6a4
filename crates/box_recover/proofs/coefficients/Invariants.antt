use Rattle.lists.proofs.Loops.{Upto}
use Rattle.box_recover.proofs.Steps.{coefficient_number}
use Rattle.box_recover.proofs.coefficients.Given as goal

-- the places before hold their coefficients
abbrev pub invariant-loop-j : goal.invariant-loop-j
invariant-loop-j l = Upto (coefficient_number l.word) l.initial.out l.out l.j
