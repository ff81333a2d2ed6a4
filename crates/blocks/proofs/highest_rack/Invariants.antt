use Rattle.std.proofs.Common.{◌≤◌}
use Rattle.blocks.specs.Inner.{HighTo}
use Rattle.blocks.proofs.highest_rack.Given as goal

abbrev pub invariant-loop-tray : goal.invariant-loop-tray
invariant-loop-tray l = (l.from ≤ l.high) × (l.high ≤ l.e) × HighTo l.u l.e l.es l.tray-index l.high
