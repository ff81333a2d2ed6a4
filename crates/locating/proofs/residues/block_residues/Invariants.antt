use Rattle.symbol.specs.Elem.{gf256}
use Rattle.layout.specs.Layout.{parity_racks}
use Rattle.sums.specs.Inner.{PointsTo}
use Rattle.locating.specs.Inner.{PartsTo}
use Rattle.locating.proofs.residues.block_residues.Given as goal

abbrev pub invariant-loop-k : goal.invariant-loop-k
invariant-loop-k l = record {
  parts : PartsTo gf256 l.l l.h l.w l.first l.helpers l.shares l.k l.sides;
  points : PointsTo gf256 l.l l.h l.first l.helpers l.w 1 (parity_racks l.l) l.points;
}
