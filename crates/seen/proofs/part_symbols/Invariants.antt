use Rattle.std.proofs.Common.{◌%◌, ◌*◌, ◌+◌, ◌/◌, ◌<◌, true, ℕ, ◌≡◌}
use Rattle.range.specs.Range.{symbols_from}
use Rattle.seen.proofs.part_symbols.Given as goal

abbrev pub invariant-loop-a : goal.invariant-loop-a
invariant-loop-a g l = let n = g.N.FieldNumber in (i : ℕ) → i < l.a → symbols_from n.field (n.codes l.host) (l.at + (l.p / l.unit * l.s + i) * l.unit + l.p % l.unit) l.w ≡ true
