use Rattle.symbol.specs.Elem.{gf256}
use Rattle.rack_solving.specs.Inner.{Bytes, RacksFound}
use Rattle.rack_solving.proofs.racks_symbols.Given as goal

-- the racks below i are found
abbrev pub invariant-loop-i : goal.invariant-loop-i
invariant-loop-i l = record {
  done : RacksFound gf256 l.u l.w l.i l.ys l.found;
  bytes : Bytes l.found;
}
