-- Made by tools/twin.py from crates/correcting/proofs/left/leave_helpers/Answers.antt.
use Rattle.std.proofs.Common.{arith}
use Rattle.correcting.proofs.Lists.{helper_there, helper_fits, left_more}
use Rattle.correcting257.proofs.left.leave_helpers.Goals as goal

pub offset_bounds-helpers-past : goal.offset_bounds-helpers-past
offset_bounds-helpers-past c =
    let p = c.requires in
    helper_fits c.args.k c.loop-i.i _ c.args.out.now c.args.helpers.now p.0 p.1 (omega arith) c.past.ensures

pub bounds-helpers-past : goal.bounds-helpers-past
bounds-helpers-past c = helper_there c.args.k c.loop-i.i _ c.args.out.now c.args.helpers.now c.requires.0 (omega arith) c.past.ensures

pub loop-i-preserved : goal.loop-i-preserved
loop-i-preserved c = left_more c.args.k c.loop-i.i _ c.loop-i.out c.args.helpers.now c.loop-i.invariant (omega arith) c.past.ensures
