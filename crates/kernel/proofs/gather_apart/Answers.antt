use Rattle.std.proofs.Common.{arith, ◌+◌, ◌*◌}
use Rattle.field.proofs.Numbers.{codes_at, codes_room}
use Rattle.kernel.proofs.Rows.{row_before}
use Rattle.kernel.proofs.Apart.{apart_none, apart_more}
use Rattle.kernel.proofs.Spaced.{place_in}
use Rattle.kernel.proofs.gather_apart.Goals as goal

-- the places read
pub bounds-src-at : goal.bounds-src-at
bounds-src-at g c = let a = c.args in place_in a.src.now a.at a.gap c.loop-b.b a.n c.requires.1 c.loop-b-test.true

pub loop-b-init : goal.loop-b-init
loop-b-init g c = record { gathered = apart_none g.met.N.FieldNumber.working _ _ _ _; low = omega arith }

-- the symbol read
pub gather-sum-requires : goal.gather-sum-requires
gather-sum-requires g c =
    let w = g.met.N.FieldNumber.numbers in
    let a = c.args in
    let q = rw (codes_at w a.src.now (a.at + c.loop-b.b * a.gap) c.index-src-at.is (place_in a.src.now a.at a.gap c.loop-b.b a.n c.requires.1 c.loop-b-test.true)) at (c.requires.0.at (a.at + c.loop-b.b * a.gap) (codes_room w a.src.now (place_in a.src.now a.at a.gap c.loop-b.b a.n c.requires.1 c.loop-b-test.true))) in
    let k = c.loop-b.invariant.low in
    omega (arith, row_before c.loop-b.b a.n (g.N.FieldNumber.field.coding.size) c.loop-b-test.true)

pub loop-b-preserved : goal.loop-b-preserved
loop-b-preserved g c =
    let w = g.met.N.FieldNumber.numbers in
    let a = c.args in
    let q = rw (codes_at w a.src.now (a.at + c.loop-b.b * a.gap) c.index-src-at.is (place_in a.src.now a.at a.gap c.loop-b.b a.n c.requires.1 c.loop-b-test.true)) at (c.requires.0.at (a.at + c.loop-b.b * a.gap) (codes_room w a.src.now (place_in a.src.now a.at a.gap c.loop-b.b a.n c.requires.1 c.loop-b-test.true))) in
    let k = c.loop-b.invariant in
    record {
      gathered = apart_more g.met.N.FieldNumber.working _ _ _ _ _ _ c.loop-b.b k.gathered (rw (codes_at w a.src.now (a.at + c.loop-b.b * a.gap) c.index-src-at.is (place_in a.src.now a.at a.gap c.loop-b.b a.n c.requires.1 c.loop-b-test.true)) c.gather-sum.ensures.0);
      low = c.gather-sum.ensures.1 _ (omega arith) (omega arith);
    }
