-- Made by tools/twin.py from crates/scrub/proofs/look/look_along/Invariants.antt.
use Rattle.symbol257.specs.Elem.{gf257}
use Rattle.scrub.proofs.Columns.{Looked}
use Rattle.scrub257.proofs.look.look_along.Given as goal

-- j columns are looked at
abbrev pub invariant-loop-j : goal.invariant-loop-j
invariant-loop-j l = Looked gf257 l.w l.r l.sums l.fn.walk l.seen l.j
