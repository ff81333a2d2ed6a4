-- Made by tools/twin.py from crates/test_kept/proofs/test_kept/Answers.antt.
use Rattle.symbol257.proofs.Working.{working}
use Rattle.test_kept.proofs.Answers.{cabinet, few_fits, few, erasing, admitted, not_all, sound, bad}
use Rattle.test_kept257.proofs.test_kept.Goals as goal

pub layer_count-total-requires : goal.layer_count-total-requires
layer_count-total-requires c = search (cabinet working)

pub check_count-requires : goal.check_count-requires
check_count-requires c = search (cabinet working)

pub overflow_cast-left : goal.overflow_cast-left
overflow_cast-left c = search (few_fits working)

pub overflow_sub-left : goal.overflow_sub-left
overflow_sub-left c = search (few working)

pub all_fit-requires : goal.all_fit-requires
all_fit-requires c = (search (erasing working), search (admitted working))

pub returns-then-all_fit : goal.returns-then-all_fit
returns-then-all_fit c =
    sound working _ _ _ _ c.refusal-ground.ensures c.if-ground-ne0.false _ c.all_fit.ensures _ c.check_count.ensures c.if-all_fit.true

pub bad_layer-requires : goal.bad_layer-requires
bad_layer-requires c = (
  search (erasing working),
  not_all working _ _ _ _ c.refusal-ground.ensures c.if-ground-ne0.false _ c.all_fit.ensures c.if-all_fit.false,
)

pub returns : goal.returns
returns c =
    bad working _ _ _ _ c.refusal-ground.ensures c.if-ground-ne0.false _ _ _ c.check_count.ensures c.of.ensures c.bad_layer.ensures
