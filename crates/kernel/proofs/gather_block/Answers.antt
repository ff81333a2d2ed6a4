use Rattle.std.proofs.Common.{arith, ◌+◌}
use Rattle.field.proofs.Numbers.{codes_set, codes_at, codes_room, codes_length}
use Rattle.kernel.proofs.Apart.{block_more, grid_lies, block_fits}
use Rattle.kernel.proofs.gather_block.Goals as goal

-- what the sum at a place is told
pub gather_grid-requires : goal.gather_grid-requires
gather_grid-requires g c =
    let w = g.met.N.FieldNumber.numbers in
    let a = c.args in
    let p = c.requires in
    let t = c.loop-j-test.true in (
      p.0.given,
      grid_lies g.N.FieldNumber.field (g.N.FieldNumber.codes a.out.now) (g.N.FieldNumber.codes a.out.now) (g.N.FieldNumber.codes a.src.now) a.to a.len a.from a.gap a.n a.far a.m c.loop-j.j p.0 t,
      rw (← codes_at w a.out.now (a.to + c.loop-j.j) c.index-out-to.is (omega (arith, codes_length w a.out.now, p.0.room)))
          (block_fits g.N.FieldNumber.field (g.N.FieldNumber.codes a.out.now) (g.N.FieldNumber.codes a.out.now) (g.N.FieldNumber.codes a.src.now) a.to a.len a.from a.gap a.n a.far a.m c.loop-j.j g.met.N.FieldNumber.small p.0 t),
    )

pub loop-j-preserved : goal.loop-j-preserved
loop-j-preserved g c =
    let w = g.met.N.FieldNumber.numbers in
    let a = c.args in
    let p = c.requires in
    rw (codes_set w) (block_more g.N.FieldNumber.field _ _ _ _ _ _ _ _ _ _ _ a.len (g.N.FieldNumber.code c.gather_grid.result) _ c.loop-j.invariant c.loop-j-test.true (codes_room w _ p.1)
    (rw (codes_at w a.out.now (a.to + c.loop-j.j) c.index-out-to.is (omega (arith, codes_length w a.out.now, p.0.room))) c.gather_grid.ensures) c.settle.ensures)
