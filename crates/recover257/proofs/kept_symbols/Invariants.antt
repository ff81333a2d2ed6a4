-- Made by tools/twin.py from crates/recover/proofs/kept_symbols/Invariants.antt.
use Rattle.std.proofs.Common.{◌≡◌, ℕ, ◌<◌, true}
use Rattle.symbol257.specs.Elem.{gf257}
use Rattle.recover.specs.Inner.{kept_tray}
use Rattle.recover257.proofs.kept_symbols.Given as goal

abbrev pub invariant-loop-x : goal.invariant-loop-x
invariant-loop-x l = (i : ℕ) → i < l.x → kept_tray gf257 l.es l.c l.total i ≡ true
