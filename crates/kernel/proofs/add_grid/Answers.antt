use Rattle.std.proofs.Common.{arith, ◌+◌}
use Rattle.field.proofs.Numbers.{codes_set, codes_at, codes_length}
use Rattle.kernel.proofs.Apart.{add_grid_more, grid_lies, grid_fits}
use Rattle.kernel.proofs.add_grid.Goals as goal

-- what the sum at a place is told
pub gather_grid-requires : goal.gather_grid-requires
gather_grid-requires g c =
    let w = g.met.N.FieldNumber.numbers in
    let a = c.args in
    let p = c.requires in
    let t = c.loop-j-test.true in (
      p.given,
      grid_lies g.N.FieldNumber.field (g.N.FieldNumber.codes a.out.now) (g.N.FieldNumber.codes c.loop-j.out) (g.N.FieldNumber.codes a.src.now) a.to a.len a.from a.gap a.n a.far a.m c.loop-j.j p t,
      rw (← codes_at w c.loop-j.out (a.to + c.loop-j.j) c.index-out-to.is (omega (arith, codes_length w a.out.now)))
          (grid_fits g.N.FieldNumber.field (g.N.FieldNumber.codes a.out.now) (g.N.FieldNumber.codes c.loop-j.out) (g.N.FieldNumber.codes a.src.now) a.to a.len a.from a.gap a.n a.far a.m c.loop-j.j g.met.N.FieldNumber.small p c.loop-j.invariant t),
    )

pub loop-j-preserved : goal.loop-j-preserved
loop-j-preserved g c =
    let w = g.met.N.FieldNumber.numbers in
    let a = c.args in
    let p = c.requires in
    rw (codes_set w) (add_grid_more g.met.N.FieldNumber.working _ _ _ _ _ _ _ _ _ _ a.len (g.N.FieldNumber.code c.gather_grid.result) _ c.loop-j.invariant c.loop-j-test.true p.room
    (rw (codes_at w c.loop-j.out (a.to + c.loop-j.j) c.index-out-to.is (omega (arith, codes_length w a.out.now))) c.gather_grid.ensures) c.settle.ensures)
