-- Made by tools/twin.py from crates/locating/proofs/row_agrees/Invariants.antt.
use Rattle.symbol257.specs.Elem.{gf257}
use Rattle.locating.specs.Inner.{RowAgrees}
use Rattle.locating257.proofs.row_agrees.Given as goal

abbrev pub invariant-loop-j : goal.invariant-loop-j
invariant-loop-j l = RowAgrees gf257 l.zeroth l.first l.at l.j l.row
