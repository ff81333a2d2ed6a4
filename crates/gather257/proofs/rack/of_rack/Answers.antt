-- Made by tools/twin.py from crates/gather/proofs/rack/of_rack/Answers.antt.
use Rattle.std.proofs.Common.{arith}
use borrow.Author.Count.{below_more}
use borrow.Author.Tests.{eq-eqb}
use Rattle.gather.proofs.Racks.{rack_false, rack_true}
use Rattle.gather257.proofs.rack.of_rack.Goals as goal

pub returns-then-x-u : goal.returns-then-x-u
returns-then-x-u c =
    let a = c.args in
    rack_false a.u a.rack a.lost.now c.loop-x.x-index (omega arith) c.if-x-u.true

pub loop-x-preserved : goal.loop-x-preserved
loop-x-preserved c = below_more _ _ c.loop-x.invariant (eq-eqb _ _ c.if-x-u.false)

pub returns : goal.returns
returns c = let a = c.args in rack_true a.u a.rack a.lost.now c.loop-x.x-index (omega arith) c.loop-x.invariant
