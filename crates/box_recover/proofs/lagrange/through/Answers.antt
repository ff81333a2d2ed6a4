use Rattle.std.proofs.Common.{arith}
use Rattle.nibble.specs.Elem.{elem}
use Rattle.box_words.proofs.SumLoops.{sums_none, sums_more}
use Rattle.box_recover.proofs.Steps.{through_term, through_term_lem, through_end}
use Rattle.box_recover.proofs.lagrange.through.Goals as goal

pub loop-i-init : goal.loop-i-init
loop-i-init c = sums_none _

pub loop-i-preserved : goal.loop-i-preserved
loop-i-preserved c =
    let a = c.args in
    sums_more (through_term a.points.now a.values.now (elem a.x)) c.loop-i.i _ _ _ _ c.loop-i.invariant c.add_product-sum.ensures
    (through_term_lem a.points.now a.values.now (elem a.x) c.loop-i.i _ c.weight.ensures)

pub returns : goal.returns
returns c = through_end c.args.points.now c.args.values.now (elem c.args.x) c.loop-i.i _ (omega arith) c.loop-i.invariant
