use Rattle.std.proofs.Common.{◌≡◌, ℕ, ◌<◌, true}
use Rattle.symbol.specs.Elem.{gf256}
use Rattle.recover.specs.Inner.{kept_tray}
use Rattle.recover.proofs.kept_symbols.Given as goal

abbrev pub invariant-loop-x : goal.invariant-loop-x
invariant-loop-x l = (i : ℕ) → i < l.x → kept_tray gf256 l.es l.c l.total i ≡ true
