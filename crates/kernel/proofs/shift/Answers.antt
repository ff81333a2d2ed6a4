use Rattle.std.proofs.Common.{arith, ◌+◌}
use Rattle.field.proofs.Numbers.{codes_set, codes_at, codes_room}
use Rattle.kernel.proofs.Runs.{shift_more, carry_more}
use Rattle.kernel.proofs.shift.Goals as goal

pub loop-j-preserved : goal.loop-j-preserved
loop-j-preserved g c =
    let w = g.met.N.FieldNumber.numbers in
    let k = c.loop-j.invariant in
    let a = c.args in
    record {
      written = rw (codes_set w)
          (shift_more _ _ _ _ _ _ _ _ _ a.len (g.N.FieldNumber.code c.product.result) _ k.written k.carried c.loop-j-test.true (codes_room w _ (omega arith))
          (rw (codes_at w c.loop-j.out (a.to + c.loop-j.j) c.index-out-to.is (omega arith), codes_at w a.by.now (a.at + c.loop-j.j) c.index-by-at.is (omega arith)) c.product.ensures)
          (rw (codes_at w c.loop-j.carry c.loop-j.j c.index-carry-j.is (omega arith)) c.difference.ensures));
      carried = rw (codes_set w, ← codes_at w c.loop-j.out (a.to + c.loop-j.j) c.index-out-to.is (omega arith))
          (carry_more g.N.FieldNumber.field _ _ _ _ (g.N.FieldNumber.codes a.by.now) _ a.at _ a.len k.written k.carried c.loop-j-test.true (codes_room w _ (omega arith)));
    }
