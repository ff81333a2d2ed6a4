-- Made by tools/twin.py from crates/batch_factors/proofs/times_others/Answers.antt.
use Rattle.symbol257.proofs.Working.{working}
use Rattle.batch_factors.proofs.Steps.{product_none, product_more, product_end}
use Rattle.batch_factors257.proofs.times_others.Goals as goal

pub loop-q-init : goal.loop-q-init
loop-q-init c = product_none working _ _ _ _ _

pub loop-q-preserved : goal.loop-q-preserved
loop-q-preserved c = search (product_more working)

pub returns : goal.returns
returns c = search (product_end working)
