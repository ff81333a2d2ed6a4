-- Made by tools/twin.py from crates/sums/proofs/free_place/Answers.antt.
use Rattle.std.proofs.Common.{arith}
use Rattle.algebra.specs.Repair.{helper_place}
use Rattle.sums.proofs.Steps.{free_first, free_high, free_next}
use Rattle.sums.specs.Inner.{helper_at}
use Rattle.sums257.proofs.free_place.Goals as goal

pub loop-helper-init : goal.loop-helper-init
loop-helper-init c = search free_first

pub skipped-x-requires : goal.skipped-x-requires
skipped-x-requires c = let p = c.requires in omega (arith, free_high _ _ _ _ c.loop-helper.invariant)

pub loop-helper-preserved : goal.loop-helper-preserved
unfolding helper_place
loop-helper-preserved c =
    let a = c.args in
    free_next (helper_place a.s a.h (helper_at a.helpers.now)) c.loop-helper.helper-index a.i _ _ _
    c.skipped-x.ensures c.rack_place-q.ensures c.loop-helper.invariant
