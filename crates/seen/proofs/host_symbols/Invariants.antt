use Rattle.std.proofs.Common.{◌<◌, true, ℕ, ◌≡◌}
use Rattle.seen.specs.Seen.{sound_symbols}
use Rattle.seen.proofs.host_symbols.Given as goal

abbrev pub invariant-loop-g : goal.invariant-loop-g
invariant-loop-g g l = let n = g.N.FieldNumber in (i : ℕ) → i < l.g → sound_symbols n.field l.fn.l l.lost l.h (n.codes l.host) l.first l.count i ≡ true
