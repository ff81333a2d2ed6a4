use Rattle.std.proofs.Common.{◌≡◌, ℕ, ◌<◌, get_or}
use Rattle.nibble.proofs.Nibble.inverse.Given as goal

-- none of the powers before is the symbol
abbrev pub invariant-loop-i : goal.invariant-loop-i
invariant-loop-i l = (k : ℕ) → k < l.i → get_or l.powers k 0 ≡ l.x → ⊥
