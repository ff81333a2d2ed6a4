use Rattle.std.proofs.Common.{ℕ, ◌<◌}
use Rattle.image.specs.Image.{edition2, symbol_at}
use Rattle.image257.proofs.symbols_held.Given as goal

-- the numbers before are symbols
abbrev pub invariant-loop-j : goal.invariant-loop-j
invariant-loop-j l = (i : ℕ) → i < l.j → symbol_at edition2 l.image i < edition2.size
