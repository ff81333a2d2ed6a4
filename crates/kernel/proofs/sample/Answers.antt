use Rattle.std.proofs.Common.{arith, ◌*◌}
use Rattle.field.proofs.Numbers.{codes_set, codes_at, codes_room}
use Rattle.kernel.proofs.Runs.{sample_more, sample_in}
use Rattle.kernel.proofs.sample.Goals as goal

pub bounds-src-j : goal.bounds-src-j
bounds-src-j g c = sample_in c.args.src.now c.args.step c.loop-j.j c.args.len c.requires.1 c.requires.2 c.loop-j-test.true

pub loop-j-preserved : goal.loop-j-preserved
loop-j-preserved g c =
    let w = g.met.N.FieldNumber.numbers in
    let a = c.args in
    rw (codes_set w, ← codes_at w a.src.now (c.loop-j.j * a.step) c.index-src-j.is (sample_in a.src.now a.step c.loop-j.j a.len c.requires.1 c.requires.2 c.loop-j-test.true))
    (sample_more _ _ _ _ _ _ a.len c.loop-j.invariant c.loop-j-test.true (codes_room w _ (omega arith)))
