-- Made by tools/twin.py from crates/share/proofs/add_across/Answers.antt.
use Rattle.std.proofs.Common.{arith}
use Rattle.symbol257.proofs.Working.{working}
use Rattle.share.proofs.Runs.{spacing, across_more, across_end}
use Rattle.share257.proofs.add_across.Goals as goal

pub add_spaced-requires : goal.add_spaced-requires
add_spaced-requires c =
    let a = c.args in
    spacing a.s a.run a.count a.symbols.now a.at a.far a.m a.sums.now c.requires c.loop-i.i _ (omega arith) c.loop-i.invariant

pub loop-i-preserved : goal.loop-i-preserved
loop-i-preserved c = search (across_more working)

pub returns : goal.returns
returns c = search (across_end working)
