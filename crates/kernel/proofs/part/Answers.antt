use Rattle.std.proofs.Common.{arith, ◌+◌}
use Rattle.field.proofs.Numbers.{codes_set, codes_at, codes_room}
use Rattle.kernel.proofs.Runs.{part_more}
use Rattle.kernel.proofs.part.Goals as goal

pub loop-j-preserved : goal.loop-j-preserved
loop-j-preserved g c =
    let w = g.met.N.FieldNumber.numbers in
    let a = c.args in
    rw (codes_set w)
    (part_more _ _ _ _ _ _ _ _ a.len (g.N.FieldNumber.code c.difference.result) _ c.loop-j.invariant c.loop-j-test.true (codes_room w _ (omega arith))
    (rw (codes_at w a.src.now (a.a + c.loop-j.j) c.index-src-a.is (omega arith), codes_at w a.src.now (a.b + c.loop-j.j) c.index-src-b.is (omega arith)) c.difference.ensures)
    (rw (codes_at w c.loop-j.out (a.to + c.loop-j.j) c.index-out-to.is (omega arith)) c.product.ensures))
