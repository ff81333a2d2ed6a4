use Rattle.std.proofs.Common.{rules, arith, ◌+◌, ◌*◌, ◌<◌, length}
use Rattle.field.proofs.Numbers.{codes_set, codes_at, codes_length}
use Rattle.kernel.proofs.Spaced.{place_in, add_spaced_more, spaced_fits}
use Rattle.kernel.proofs.add_spaced.Goals as goal

-- the place written
pub offset_bounds-out-to : goal.offset_bounds-out-to
offset_bounds-out-to g c =
    let w = g.met.N.FieldNumber.numbers in
    let a = c.args in
    let h : a.to + c.loop-j.j * a.step < length c.loop-j.out = place_in c.loop-j.out a.to a.step c.loop-j.j a.len (omega (arith, codes_length w a.out.now, c.requires.room)) c.loop-j-test.true in
    search rules

pub offset_bounds-out-to-in-loop-j : goal.offset_bounds-out-to-in-loop-j
offset_bounds-out-to-in-loop-j g c =
    let w = g.met.N.FieldNumber.numbers in
    let a = c.args in
    let h : a.to + c.loop-j.j * a.step < length c.loop-j.out = place_in c.loop-j.out a.to a.step c.loop-j.j a.len (omega (arith, codes_length w a.out.now, c.requires.room)) c.loop-j-test.true in
    search rules

-- what the sum at a place is told
pub gather_grid-v-requires : goal.gather_grid-v-requires
gather_grid-v-requires g c =
    let w = g.met.N.FieldNumber.numbers in
    let a = c.args in
    let h : a.to + c.loop-j.j * a.step < length c.loop-j.out = place_in c.loop-j.out a.to a.step c.loop-j.j a.len (omega (arith, codes_length w a.out.now, c.requires.room)) c.loop-j-test.true in
    let p = c.requires in (
      p.given,
      p.lies _ c.loop-j-test.true,
      rw (← codes_at w c.loop-j.out (a.to + c.loop-j.j * a.step) c.index-out-to.is h) (spaced_fits g.N.FieldNumber.field (g.N.FieldNumber.codes a.out.now) (g.N.FieldNumber.codes c.loop-j.out) (g.N.FieldNumber.codes a.src.now) a.to a.step a.len a.from a.stride a.gap a.n a.far a.m c.loop-j.j g.met.N.FieldNumber.small p c.loop-j.invariant c.loop-j-test.true),
    )

pub loop-j-preserved : goal.loop-j-preserved
loop-j-preserved g c =
    let w = g.met.N.FieldNumber.numbers in
    let a = c.args in
    let h : a.to + c.loop-j.j * a.step < length c.loop-j.out = place_in c.loop-j.out a.to a.step c.loop-j.j a.len (omega (arith, codes_length w a.out.now, c.requires.room)) c.loop-j-test.true in
    rw (codes_set w)
    (add_spaced_more g.N.FieldNumber.field _ _ _ _ _ _ _ _ _ _ _ _ a.len (g.N.FieldNumber.code c.gather_grid-v.result) _ c.loop-j.invariant c.loop-j-test.true c.requires
    (rw (codes_at w c.loop-j.out (a.to + c.loop-j.j * a.step) c.index-out-to.is h) c.gather_grid-v.ensures) c.settle.ensures)
