use Rattle.rack_checks.specs.Inner.{ListedFrom}
use Rattle.rack_checks.proofs.listed_from.Given as goal

-- every tray from x on is listed
abbrev pub invariant-loop-x : goal.invariant-loop-x
invariant-loop-x l = ListedFrom l.es l.x l.n
