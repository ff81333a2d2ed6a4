-- Made by tools/twin.py from crates/solving/proofs/listed_points/Invariants.antt.
use Rattle.symbol257.specs.Elem.{gf257}
use Rattle.solving.specs.Inner.{ListedPoints}
use Rattle.solving257.proofs.listed_points.Given as goal

-- the points of the first k trays listed
abbrev pub invariant-loop-k : goal.invariant-loop-k
invariant-loop-k l = ListedPoints gf257 l.l l.first l.es l.v l.run l.k l.points
