use Rattle.std.proofs.Common.{arith, ◌+◌}
use Rattle.field.proofs.Numbers.{codes_set, codes_at, codes_room}
use Rattle.kernel.proofs.Runs.{add_more}
use Rattle.kernel.proofs.add.Goals as goal

pub loop-j-preserved : goal.loop-j-preserved
loop-j-preserved g c =
    let w = g.met.N.FieldNumber.numbers in
    let a = c.args in
    rw (codes_set w) (add_more _ _ _ _ _ _ _ a.len _ c.loop-j.invariant c.loop-j-test.true (codes_room w _ (omega arith))
    (rw (codes_at w c.loop-j.out (a.to + c.loop-j.j) c.index-out-to.is (omega arith), codes_at w a.src.now (a.from + c.loop-j.j) c.index-src-from.is (omega arith)) c.sum.ensures))
