use Rattle.std.proofs.Common.{◌-◌, ◌≤◌}
use Rattle.rule.specs.Lost.{Piece}
use Rattle.symbol.specs.Elem.{gf256}
use Rattle.pieces.proofs.repair_blocks.Given as goal

abbrev pub invariant-loop-k : goal.invariant-loop-k
invariant-loop-k l = (l.k ≤ l.count) × Piece gf256 l.l l.lost l.helpers l.shares l.host l.first l.k l.initial.spare l.spare

abbrev pub decreases-loop-k : goal.decreases-loop-k
decreases-loop-k l = l.count - l.k
