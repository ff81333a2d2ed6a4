use Rattle.std.proofs.Common.{arith}
use Rattle.box_words.proofs.SumLoops.{sums_none, sums_more}
use Rattle.box_recover.proofs.Steps.{coefficient_term, coefficient_term_lem, coefficient_end}
use Rattle.box_recover.proofs.coefficient.Goals as goal

pub loop-x-init : goal.loop-x-init
loop-x-init c = sums_none _

pub loop-x-preserved : goal.loop-x-preserved
loop-x-preserved c =
    let a = c.args in
    sums_more (coefficient_term a.word.now a.j) c.loop-x.x _ _ _ _ c.loop-x.invariant c.add_product-sum.ensures
    (coefficient_term_lem a.word.now c.all_points-points.result a.j c.loop-x.x _ c.all_points-points.ensures c.power-factor.ensures)

pub returns : goal.returns
returns c = coefficient_end c.args.word.now c.args.j c.loop-x.x _ (omega arith) c.loop-x.invariant
