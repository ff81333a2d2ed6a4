use Rattle.symbol.specs.Elem.{gf256}
use Rattle.solving.specs.Inner.{ListedPoints}
use Rattle.solving.proofs.listed_points.Given as goal

-- the points of the first k trays listed
abbrev pub invariant-loop-k : goal.invariant-loop-k
invariant-loop-k l = ListedPoints gf256 l.l l.first l.es l.v l.run l.k l.points
