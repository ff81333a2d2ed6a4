use Rattle.std.proofs.Common.{◌≤◌}
use Rattle.blocks.specs.Inner.{LowTo}
use Rattle.blocks.proofs.lowest_rack.Given as goal

abbrev pub invariant-loop-tray : goal.invariant-loop-tray
invariant-loop-tray l = (l.low ≤ l.racks) × LowTo l.u l.es l.tray-index l.low
