use Rattle.std.proofs.Common.{◌≡◌, ℕ, ◌<◌, get_or}
use Rattle.correcting.specs.Inner.{past_one}
use Rattle.correcting.proofs.left.leave_helpers.Given as goal

abbrev pub invariant-loop-i : goal.invariant-loop-i
invariant-loop-i l = (q : ℕ) → q < l.i → get_or l.out q 0 ≡ get_or l.helpers (past_one l.k q) 0
