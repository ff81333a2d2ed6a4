use Rattle.symbol.specs.Elem.{gf256}
use Rattle.locating.specs.Inner.{RowAgrees}
use Rattle.locating.proofs.row_agrees.Given as goal

abbrev pub invariant-loop-j : goal.invariant-loop-j
invariant-loop-j l = RowAgrees gf256 l.zeroth l.first l.at l.j l.row
