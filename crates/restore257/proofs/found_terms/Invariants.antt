-- Made by tools/twin.py from crates/restore/proofs/found_terms/Invariants.antt.
use Rattle.symbol257.specs.Elem.{gf257}
use Rattle.restore.specs.Inner.{FoundTerms}
use Rattle.restore257.proofs.found_terms.Given as goal

-- the terms of the first k rows are added
abbrev pub invariant-loop-k : goal.invariant-loop-k
invariant-loop-k l = FoundTerms gf257 l.l l.w l.first l.r l.es l.found l.fn.sums l.sums l.k
