-- Made by tools/twin.py from crates/group/proofs/fill_places/Invariants.antt.
use Rattle.symbol257.specs.Elem.{gf257}
use Rattle.group.specs.Inner.{PlacesTo}
use Rattle.group257.proofs.fill_places.Given as goal

abbrev pub invariant-loop-i : goal.invariant-loop-i
invariant-loop-i l = PlacesTo gf257 l.l l.lost l.i l.places
