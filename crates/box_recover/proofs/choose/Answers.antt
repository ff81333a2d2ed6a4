use Rattle.std.proofs.Common.{arith, rules}
use Rattle.lists.proofs.Loops.{upto_more}
use Rattle.box_recover.proofs.Steps.{chosen_at, chosen_at_lem, chosen_is}
use Rattle.box_recover.proofs.choose.Goals as goal

pub loop-i-preserved : goal.loop-i-preserved
loop-i-preserved c =
    let a = c.args in
    upto_more (chosen_at a.erased.now a.from.now) c.loop-i.invariant (omega arith)
    (chosen_at_lem a.erased.now a.from.now c.loop-i.i _ c.survivor.ensures.0)

pub returns : goal.returns
returns c =
    chosen_is c.args.erased.now c.args.from.now _ _ c.loop-i.i (search rules) (omega (arith, c.loop-i.invariant.same)) c.loop-i.invariant
