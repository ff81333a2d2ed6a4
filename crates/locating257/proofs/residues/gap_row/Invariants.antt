-- Made by tools/twin.py from crates/locating/proofs/residues/gap_row/Invariants.antt.
use Rattle.symbol257.specs.Elem.{gf257}
use Rattle.locating.specs.Inner.{GapsTo}
use Rattle.locating257.proofs.residues.gap_row.Given as goal

abbrev pub invariant-loop-i : goal.invariant-loop-i
invariant-loop-i l = GapsTo gf257 l.w l.n l.points l.i l.cur
