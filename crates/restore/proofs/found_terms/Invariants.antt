use Rattle.symbol.specs.Elem.{gf256}
use Rattle.restore.specs.Inner.{FoundTerms}
use Rattle.restore.proofs.found_terms.Given as goal

-- the terms of the first k rows are added
abbrev pub invariant-loop-k : goal.invariant-loop-k
invariant-loop-k l = FoundTerms gf256 l.l l.w l.first l.r l.es l.found l.fn.sums l.sums l.k
