use Rattle.std.proofs.Common.{arith, ◌+◌}
use Rattle.field.proofs.Numbers.{codes_set, codes_at, codes_room}
use Rattle.kernel.proofs.Runs.{repeat_more}
use Rattle.kernel.proofs.repeat.Goals as goal

pub loop-j-preserved : goal.loop-j-preserved
loop-j-preserved g c =
    let w = g.met.N.FieldNumber.numbers in
    let a = c.args in
    rw (codes_set w, ← codes_at w c.loop-j.out (a.from + c.loop-j.j) c.index-out-from.is (omega arith))
    (repeat_more _ _ _ _ _ a.len c.loop-j.invariant c.loop-j-test.true (omega arith) (codes_room w _ (omega arith)))
