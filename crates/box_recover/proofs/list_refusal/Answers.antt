use Rattle.box_recover.proofs.Grounds.{ground_list, ground_values, ground_order, ground_many, ground_none}
use Rattle.box_recover.proofs.list_refusal.Goals as goal

pub returns-then-not-all_below : goal.returns-then-not-all_below
returns-then-not-all_below c = search ground_list

pub returns-then-not-survivors_below : goal.returns-then-not-survivors_below
returns-then-not-survivors_below c = search ground_values

pub returns-then-not-strictly_rising : goal.returns-then-not-strictly_rising
returns-then-not-strictly_rising c = search ground_order

pub returns-then-erased-gt-ERASED : goal.returns-then-erased-gt-ERASED
returns-then-erased-gt-ERASED c = search ground_many

pub returns : goal.returns
returns c = search ground_none
