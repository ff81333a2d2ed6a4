use Rattle.std.proofs.Common.{arith}
use Rattle.field.proofs.Numbers.{codes_set, codes_room}
use Rattle.kernel.proofs.Runs.{fill_more}
use Rattle.kernel.proofs.fill.Goals as goal

pub loop-j-preserved : goal.loop-j-preserved
loop-j-preserved g c =
    let w = g.met.N.FieldNumber.numbers in
    rw (codes_set w) (fill_more _ _ _ _ c.args.len _ c.loop-j.invariant c.loop-j-test.true (codes_room w _ (omega arith)))
