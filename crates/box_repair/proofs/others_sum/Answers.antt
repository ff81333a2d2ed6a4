use Rattle.std.proofs.Common.{arith}
use Rattle.box_words.proofs.SumLoops.{sums_none, sums_add}
use Rattle.box_repair.proofs.Steps.{other_term, other_term_lem, other_small, others_end}
use Rattle.box_repair.proofs.others_sum.Goals as goal

pub loop-g-init : goal.loop-g-init
loop-g-init c = sums_none _

pub loop-g-preserved : goal.loop-g-preserved
loop-g-preserved c =
    let a = c.args in
    let g = c.loop-g.g in
    sums_add (other_term a.place a.rack.now) g _ _ _ c.loop-g.invariant c.add-sum.ensures
    (other_small a.place a.rack.now g _ c.requires (omega arith) c.other_at.ensures)
    (other_term_lem a.place a.rack.now g _ c.other_at.ensures)

pub returns : goal.returns
returns c = others_end c.args.place c.args.rack.now c.loop-g.g _ (omega arith) c.loop-g.invariant
