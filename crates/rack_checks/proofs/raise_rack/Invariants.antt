use Rattle.symbol.specs.Elem.{gf256}
use Rattle.rack_checks.specs.Inner.{Weights, LastSums}
use Rattle.rack_checks.proofs.raise_rack.Given as goal

-- the checks of the weights below m are raised, and the sums of the weight before m stand
abbrev pub invariant-loop-m : goal.invariant-loop-m
invariant-loop-m l = record {
  raised : Weights gf256 l.l l.w l.first l.r l.c l.es l.i l.fn.sums l.sums l.m;
  last : LastSums gf256 l.l l.w l.first l.c l.es l.i l.m l.cur;
}
