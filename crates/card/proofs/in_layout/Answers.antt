use Rattle.card.proofs.Grounds.{out_tray, out_helpers, group_tells}
use Rattle.card.proofs.in_layout.Goals as goal

pub returns-then-tray_count-x : goal.returns-then-tray_count-x
returns-then-tray_count-x c = search out_tray

pub returns-then-not-all_below : goal.returns-then-not-all_below
returns-then-not-all_below c = search out_helpers

pub returns : goal.returns
returns c = search group_tells
