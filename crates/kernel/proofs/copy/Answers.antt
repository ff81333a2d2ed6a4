use Rattle.std.proofs.Common.{arith, ◌+◌}
use Rattle.field.proofs.Numbers.{codes_set, codes_at, codes_room}
use Rattle.kernel.proofs.Runs.{copy_more}
use Rattle.kernel.proofs.copy.Goals as goal

pub loop-j-preserved : goal.loop-j-preserved
loop-j-preserved g c =
    let w = g.met.N.FieldNumber.numbers in
    let a = c.args in
    rw (codes_set w, ← codes_at w a.src.now (a.from + c.loop-j.j) c.index-src-from.is (omega arith))
    (copy_more _ _ _ _ _ _ a.len c.loop-j.invariant c.loop-j-test.true (codes_room w _ (omega arith)))
