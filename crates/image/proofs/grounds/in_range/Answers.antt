use Rattle.std.proofs.Common.{arith}
use Rattle.image.proofs.Ranges.{range_tray, range_state, range_volume}
use Rattle.image.proofs.grounds.in_range.Goals as goal

pub returns-then-tray_count-number : goal.returns-then-tray_count-number
returns-then-tray_count-number c = range_tray _ _ _ _ _ _ c.tray_count.ensures c.number.ensures (omega arith)

pub returns-then-not-state_allowed : goal.returns-then-not-state_allowed
returns-then-not-state_allowed c = search range_state

pub returns : goal.returns
returns c = search range_volume
