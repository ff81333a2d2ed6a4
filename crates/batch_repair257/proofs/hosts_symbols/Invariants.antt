-- Made by tools/twin.py from crates/batch_repair/proofs/hosts_symbols/Invariants.antt.
use Rattle.std.proofs.Common.{ℕ, ◌≡◌, ◌+◌, ◌*◌, ◌<◌, true}
use Rattle.symbol257.specs.Elem.{gf257}
use Rattle.seen.specs.Inner.{tray_symbols}
use Rattle.batch_repair257.proofs.hosts_symbols.Given as goal

abbrev pub invariant-loop-g : goal.invariant-loop-g
invariant-loop-g l =
    (i : ℕ) → i < l.g →
    tray_symbols gf257 l.lost (l.h * l.u + i) l.host (i * l.total) l.s l.unit (l.first * l.many) (l.count * l.many) ≡ true
