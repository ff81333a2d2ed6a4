use Rattle.std.proofs.Common.{arith}
use Rattle.box_words.proofs.SumLoops.{sums_none, sums_add}
use Rattle.box_repair.proofs.Steps.{value_term, value_term_lem, rack_end}
use Rattle.box_repair.proofs.rack_sum.Goals as goal

pub loop-v-init : goal.loop-v-init
loop-v-init c = sums_none _

pub loop-v-preserved : goal.loop-v-preserved
loop-v-preserved c =
    let v = c.loop-v.v-index in
    sums_add (value_term c.args.vs.now) v _ _ _ c.loop-v.invariant c.add-sum.ensures (c.requires.1 v (omega arith))
    (value_term_lem c.args.vs.now v)

pub returns : goal.returns
returns c = rack_end c.args.vs.now c.loop-v.v-index _ (omega arith) c.loop-v.invariant
