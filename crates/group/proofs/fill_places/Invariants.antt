use Rattle.symbol.specs.Elem.{gf256}
use Rattle.group.specs.Inner.{PlacesTo}
use Rattle.group.proofs.fill_places.Given as goal

abbrev pub invariant-loop-i : goal.invariant-loop-i
invariant-loop-i l = PlacesTo gf256 l.l l.lost l.i l.places
