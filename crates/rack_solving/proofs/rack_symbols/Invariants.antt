use Rattle.std.proofs.Common.{◌-◌, ◌<◌}
use Rattle.symbol.specs.Elem.{gf256}
use Rattle.weigh.specs.Inner.{Weighed}
use Rattle.rack_solving.specs.Inner.{RackFound}
use Rattle.rack_solving.proofs.rack_symbols.Given as goal

-- the sums of the weight before m stand in the row, and the places opposite to those below m are found
abbrev pub invariant-loop-m : goal.invariant-loop-m
invariant-loop-m l = record {
  last : 0 < l.m → Weighed gf256 l.u (l.m - 1) l.ys l.from l.w l.w l.row;
  done : RackFound gf256 l.u l.w l.i l.ys l.fn.found l.found l.m;
}
