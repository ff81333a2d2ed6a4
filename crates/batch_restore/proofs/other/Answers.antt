use Rattle.std.proofs.Common.{arith}
use Rattle.batch_restore.proofs.Known.{free_first, other_low, other_more, other_end}
use Rattle.batch_restore.proofs.other.Goals as goal

pub loop-q-init : goal.loop-q-init
loop-q-init c = free_first _ _

pub skipped-x-requires : goal.skipped-x-requires
skipped-x-requires c =
    let a = c.args in other_low a.es.now a.i c.loop-q.q-index _ c.loop-q.invariant c.requires.0 c.requires.1 (omega arith)

pub loop-q-preserved : goal.loop-q-preserved
loop-q-preserved c = let a = c.args in other_more a.es.now a.i c.loop-q.q-index _ c.loop-q.invariant _ c.skipped-x.ensures

pub returns : goal.returns
returns c = let a = c.args in other_end a.es.now a.i c.loop-q.q-index _ c.loop-q.invariant (omega arith) (omega arith)
