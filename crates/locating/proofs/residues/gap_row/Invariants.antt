use Rattle.symbol.specs.Elem.{gf256}
use Rattle.locating.specs.Inner.{GapsTo}
use Rattle.locating.proofs.residues.gap_row.Given as goal

abbrev pub invariant-loop-i : goal.invariant-loop-i
invariant-loop-i l = GapsTo gf256 l.w l.n l.points l.i l.cur
