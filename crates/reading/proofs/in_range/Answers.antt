use Rattle.std.proofs.Common.{arith}
use Rattle.reading.proofs.Ranges.{range_lost, range_tray, range_done, range_run, range_end}
use Rattle.reading.proofs.in_range.Goals as goal

pub returns-then-n-lost : goal.returns-then-n-lost
returns-then-n-lost c = range_lost _ _ _ _ _ _ _ c.tray_count-n.ensures (omega arith)

pub returns-then-n-tray : goal.returns-then-n-tray
returns-then-n-tray c = range_tray _ _ _ _ _ _ _ c.tray_count-n.ensures (omega arith)

pub returns-then-group_count-done : goal.returns-then-group_count-done
returns-then-group_count-done c = search range_done

pub returns-then-end-first : goal.returns-then-end-first
returns-then-end-first c = search range_run

pub returns : goal.returns
returns c = search range_end
