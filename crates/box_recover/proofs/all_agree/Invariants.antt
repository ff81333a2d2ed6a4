use Rattle.std.proofs.Common.{◌≡◌, ℕ, ◌<◌, true}
use Rattle.box_recover.specs.Inner.{agrees_at}
use Rattle.box_recover.proofs.all_agree.Given as goal

-- the trays before are listed or alike
abbrev pub invariant-loop-x : goal.invariant-loop-x
invariant-loop-x l = (k : ℕ) → k < l.x → agrees_at l.erased l.c l.word k ≡ true
