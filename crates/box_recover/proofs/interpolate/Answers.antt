use Rattle.std.proofs.Common.{arith, rules}
use Rattle.lists.proofs.Loops.{upto_more}
use Rattle.box_recover.proofs.Steps.{value_of, value_of_lem, values_are}
use Rattle.box_recover.proofs.interpolate.Goals as goal

pub loop-x-preserved : goal.loop-x-preserved
loop-x-preserved c =
    let a = c.args in
    upto_more (value_of a.at.now a.values.now) c.loop-x.invariant (omega arith)
    (value_of_lem a.at.now a.values.now c.all_points-points.result c.loop-x.x _ c.all_points-points.ensures c.through.ensures)

pub returns : goal.returns
returns c =
    values_are c.args.at.now c.args.values.now _ _ c.loop-x.x (search rules) (omega (arith, c.loop-x.invariant.same)) c.loop-x.invariant
