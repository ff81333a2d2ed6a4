use Rattle.symbol.specs.Elem.{gf256}
use Rattle.rack_checks.specs.Inner.{PlaceSums}
use Rattle.rack_checks.proofs.sum_places.Given as goal

-- the sums over the places below g
abbrev pub invariant-loop-g : goal.invariant-loop-g
invariant-loop-g l = PlaceSums gf256 l.l l.w l.first l.c l.es l.i l.m l.g l.cur
