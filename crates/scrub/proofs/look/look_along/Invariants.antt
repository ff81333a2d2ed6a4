use Rattle.symbol.specs.Elem.{gf256}
use Rattle.scrub.proofs.Columns.{Looked}
use Rattle.scrub.proofs.look.look_along.Given as goal

-- j columns are looked at
abbrev pub invariant-loop-j : goal.invariant-loop-j
invariant-loop-j l = Looked gf256 l.w l.r l.sums l.fn.walk l.seen l.j
