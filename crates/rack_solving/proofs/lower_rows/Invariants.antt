use Rattle.symbol.specs.Elem.{gf256}
use Rattle.rack_solving.specs.Inner.{Lowered}
use Rattle.rack_solving.proofs.lower_rows.Given as goal

-- the first k rows are divided
abbrev pub invariant-loop-k : goal.invariant-loop-k
invariant-loop-k l = Lowered gf256 l.l l.w l.first l.es l.k l.fn.ys l.ys
