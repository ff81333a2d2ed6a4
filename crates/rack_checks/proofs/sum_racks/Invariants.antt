use Rattle.symbol.specs.Elem.{gf256}
use Rattle.rack_checks.specs.Inner.{Above}
use Rattle.rack_checks.proofs.sum_racks.Given as goal

-- the checks over the racks from i on
abbrev pub invariant-loop-i : goal.invariant-loop-i
invariant-loop-i l = Above gf256 l.l l.w l.first l.r l.c l.es l.i l.sums
