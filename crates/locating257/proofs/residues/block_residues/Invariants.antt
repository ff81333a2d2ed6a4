-- Made by tools/twin.py from crates/locating/proofs/residues/block_residues/Invariants.antt.
use Rattle.symbol257.specs.Elem.{gf257}
use Rattle.layout.specs.Layout.{parity_racks}
use Rattle.sums.specs.Inner.{PointsTo}
use Rattle.locating.specs.Inner.{PartsTo}
use Rattle.locating257.proofs.residues.block_residues.Given as goal

abbrev pub invariant-loop-k : goal.invariant-loop-k
invariant-loop-k l = record {
  parts : PartsTo gf257 l.l l.h l.w l.first l.helpers l.shares l.k l.sides;
  points : PointsTo gf257 l.l l.h l.first l.helpers l.w 1 (parity_racks l.l) l.points;
}
