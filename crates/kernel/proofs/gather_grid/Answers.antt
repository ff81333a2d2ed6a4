use Rattle.std.proofs.Common.{arith}
use Rattle.field.proofs.Numbers.{codes_length}
use Rattle.std.proofs.Math.Nat.{mul-le-mul_right}
use Rattle.kernel.proofs.Rows.{row_before, row_end}
use Rattle.kernel.proofs.Apart.{grid_none, grid_more, row_first}
use Rattle.kernel.proofs.gather_grid.Goals as goal

pub loop-g-init : goal.loop-g-init
loop-g-init g c = record { gathered = grid_none g.met.N.FieldNumber.working _ _ _ _ _ _; low = omega arith }

-- the row of a turn
pub overflow_mul-g : goal.overflow_mul-g
overflow_mul-g g c = let w = g.met.N.FieldNumber.numbers in let a = c.args in omega (arith, codes_length w a.src.now, (row_first (g.N.FieldNumber.codes a.src.now) a.at a.gap a.n a.far a.m c.loop-g.g c.requires.1 c.loop-g-test.true))

pub overflow_add-at : goal.overflow_add-at
overflow_add-at g c = let w = g.met.N.FieldNumber.numbers in let a = c.args in omega (arith, codes_length w a.src.now, (row_first (g.N.FieldNumber.codes a.src.now) a.at a.gap a.n a.far a.m c.loop-g.g c.requires.1 c.loop-g-test.true))

pub gather_apart-sum-requires : goal.gather_apart-sum-requires
gather_apart-sum-requires g c =
    let w = g.met.N.FieldNumber.numbers in
    let p = c.requires in
    let a = c.args in
    let k = c.loop-g.invariant.low in (
      p.0,
      rw (← codes_length w a.src.now) (p.1.rows _ c.loop-g-test.true),
      omega (arith, mul-le-mul_right g.N.FieldNumber.field.coding.size (row_before c.loop-g.g a.m a.n c.loop-g-test.true)),
    )

pub loop-g-preserved : goal.loop-g-preserved
loop-g-preserved g c =
    let k = c.loop-g.invariant in
    let e = c.gather_apart-sum.ensures in
    record {
      gathered = grid_more g.met.N.FieldNumber.working _ _ _ _ _ _ _ _ c.loop-g.g k.gathered e.0;
      low = omega (arith, row_end c.loop-g.g c.args.n);
    }
