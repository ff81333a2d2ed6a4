use Rattle.grounds.proofs.Grounds.{stop_5, stop_12, first_listed, stop_6, stop_7, pass_7}
use Rattle.grounds.proofs.count_refusal.Goals as goal

pub returns-then-helpers-d : goal.returns-then-helpers-d
returns-then-helpers-d c = search stop_5

pub returns-then-not-lost_count_fits : goal.returns-then-not-lost_count_fits
returns-then-not-lost_count_fits c = search stop_12

pub bounds-lost-0 : goal.bounds-lost-0
bounds-lost-0 c = search first_listed

pub returns-then-not-is_absent : goal.returns-then-not-is_absent
returns-then-not-is_absent c = search stop_6

pub returns-then-group_count-first : goal.returns-then-group_count-first
returns-then-group_count-first c = search stop_7

pub returns : goal.returns
returns c = search pass_7
