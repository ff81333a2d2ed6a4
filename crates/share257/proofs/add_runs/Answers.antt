-- Made by tools/twin.py from crates/share/proofs/add_runs/Answers.antt.
use Rattle.std.proofs.Common.{arith}
use Rattle.symbol257.proofs.Working.{working}
use Rattle.share.proofs.Runs.{gridding, runs_more, runs_end}
use Rattle.share257.proofs.add_runs.Goals as goal

pub add_row-requires : goal.add_row-requires
add_row-requires c =
    let a = c.args in
    let d = c.loop-q.invariant in
    (gridding a.s a.run a.count a.symbols.now a.at a.far a.m a.sums.now c.requires.0 c.loop-q.q _ (omega arith) d.same d.rest, c.requires.1)

pub loop-q-preserved : goal.loop-q-preserved
loop-q-preserved c = search (runs_more working)

pub returns : goal.returns
returns c = search (runs_end working)
