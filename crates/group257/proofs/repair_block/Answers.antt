-- Made by tools/twin.py from crates/group/proofs/repair_block/Answers.antt.
use Rattle.std.proofs.Common.{◌<◌, arith}
use Rattle.layout.specs.Layout.{digits}
use Rattle.symbol257.proofs.Working.{working}
use Rattle.group.proofs.Repair.{repaired_end, repaired_more, repaired_none}
use Rattle.group257.proofs.repair_block.Goals as goal

pub loop-a-init : goal.loop-a-init
loop-a-init c = repaired_none working _ _ _ _ _ _ _ _

pub loop-a-preserved : goal.loop-a-preserved
loop-a-preserved c =
    let a = c.args in
    let k = c.loop-a in
    let t : k.a < digits a.l = omega (arith, c.digit_count-s.ensures) in
    repaired_more working a.l a.h a.lost.now a.host.now a.w a.first a.sums.now k.a a.spare.now k.spare
    c.repair_digit.new.spare c.requires.0 t k.invariant c.repair_digit.ensures

pub returns : goal.returns
returns c = search (repaired_end working)
