use Rattle.std.proofs.Common.{◌≡◌, ℕ, ◌<◌, true}
use Rattle.box_repair.specs.Inner.{other_below}
use Rattle.box_repair.proofs.others_below.Given as goal

-- the values before are the lost one or symbols
abbrev pub invariant-loop-g : goal.invariant-loop-g
invariant-loop-g l = (k : ℕ) → k < l.g → other_below l.place l.rack k ≡ true
