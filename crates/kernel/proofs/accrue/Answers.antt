use Rattle.std.proofs.Common.{arith, ◌+◌}
use Rattle.field.proofs.Numbers.{codes_set, codes_at, codes_room}
use Rattle.kernel.proofs.Standing.{accrue_more, step_more}
use Rattle.kernel.proofs.accrue.Goals as goal

pub loop-j-preserved : goal.loop-j-preserved
loop-j-preserved g c =
    let w = g.met.N.FieldNumber.numbers in
    let k = c.loop-j.invariant in
    let f = g.N.FieldNumber.field in
    let a = c.args in
    let p = rw (← codes_at w c.loop-j.cur c.loop-j.j c.index-cur-j.is (omega arith), ← codes_at w a.by.now c.loop-j.j c.index-by-j.is (omega arith)) at c.lazy_product-v.ensures.0 in
    record {
      added = rw (codes_set w)
          (accrue_more f _ _ _ _ _ _ _ a.len (g.N.FieldNumber.code c.lazy_product-v.result) _ k.added k.stepped c.loop-j-test.true (codes_room w _ (omega arith)) p
          (rw (codes_at w c.loop-j.out (a.to + c.loop-j.j) c.index-out-to.is (omega arith)) c.lazy_sum.ensures));
      stepped = rw (codes_set w) (step_more f _ _ _ _ a.len _ k.stepped c.loop-j-test.true (codes_room w _ (omega arith)) p);
    }
