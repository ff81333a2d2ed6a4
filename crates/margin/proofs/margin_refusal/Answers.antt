use Rattle.margin.proofs.Grounds.{cabinet_so, margin_1, margin_2, margin_3, margin_0}
use Rattle.margin.proofs.margin_refusal.Goals as goal

pub returns-then-not-admitted : goal.returns-then-not-admitted
returns-then-not-admitted c = search margin_1

pub tray_count-requires : goal.tray_count-requires
tray_count-requires c = search cabinet_so

pub returns-then-states-tray_count : goal.returns-then-states-tray_count
returns-then-states-tray_count c = search margin_2

pub returns-then-not-states_known : goal.returns-then-not-states_known
returns-then-not-states_known c = search margin_3

pub returns : goal.returns
returns c = search margin_0
