use Rattle.std.proofs.Common.{ℕ, ◌≡◌, ◌+◌, ◌*◌, ◌<◌, true}
use Rattle.symbol.specs.Elem.{gf256}
use Rattle.seen.specs.Inner.{tray_symbols}
use Rattle.batch_repair.proofs.hosts_symbols.Given as goal

abbrev pub invariant-loop-g : goal.invariant-loop-g
invariant-loop-g l =
    (i : ℕ) → i < l.g →
    tray_symbols gf256 l.lost (l.h * l.u + i) l.host (i * l.total) l.s l.unit (l.first * l.many) (l.count * l.many) ≡ true
