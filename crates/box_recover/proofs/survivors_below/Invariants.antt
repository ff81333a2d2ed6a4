use Rattle.std.proofs.Common.{◌≡◌, ℕ, ◌<◌, true}
use Rattle.box_recover.specs.Inner.{survivor_at}
use Rattle.box_recover.proofs.survivors_below.Given as goal

-- the trays before are listed or hold symbols
abbrev pub invariant-loop-x : goal.invariant-loop-x
invariant-loop-x l = (k : ℕ) → k < l.x → survivor_at l.erased l.c k ≡ true
