use Rattle.std.proofs.Common.{◌≡◌, ℕ, ◌+◌, ◌*◌, ◌<◌, true}
use Rattle.range.specs.Range.{symbols_from}
use Rattle.range.proofs.rows_are_symbols.Given as goal

abbrev pub invariant-loop-r : goal.invariant-loop-r
invariant-loop-r g l = let n = g.N.FieldNumber in (i : ℕ) → i < l.r → symbols_from n.field (n.codes l.xs) (i * l.width + l.first) l.count ≡ true
