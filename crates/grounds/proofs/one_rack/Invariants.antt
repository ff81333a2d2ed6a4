use Rattle.std.proofs.Common.{◌≡◌, ℕ, ◌/◌, ◌<◌, get_or}
use Rattle.grounds.proofs.one_rack.Given as goal

-- the trays before stand in the rack of the first one
abbrev pub invariant-loop-tray : goal.invariant-loop-tray
invariant-loop-tray l = (k : ℕ) → k < l.tray-index → get_or l.lost k 0 / l.u ≡ get_or l.lost 0 0 / l.u
