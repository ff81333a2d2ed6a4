use Rattle.lists.proofs.Loops.{Upto}
use Rattle.box_recover.proofs.Steps.{value_of}
use Rattle.box_recover.proofs.interpolate.Given as goal

-- the places before hold their values
abbrev pub invariant-loop-x : goal.invariant-loop-x
invariant-loop-x l = Upto (value_of l.at l.values) l.initial.out l.out l.x
