use Rattle.std.proofs.Common.{arith, sym, ◌∙◌, below_more}
use Rattle.field.proofs.Numbers.{codes_at}
use Rattle.kernel.proofs.Runs.{zero_false, zero_true}
use Rattle.kernel.proofs.all_zero.Goals as goal

pub returns-then-index-ne0 : goal.returns-then-index-ne0
returns-then-index-ne0 g c =
    let w = g.met.N.FieldNumber.numbers in
    zero_false g.N.FieldNumber.field _ _ c.loop-j.j _ c.loop-j-test.true
    (rw (codes_at w c.args.xs.now c.loop-j.j c.index-xs-j.is (omega arith)) c.index.ensures.0) c.if-index-ne0.true

pub loop-j-preserved : goal.loop-j-preserved
loop-j-preserved g c =
    let w = g.met.N.FieldNumber.numbers in
    below_more _ _ c.loop-j.invariant
    (rw (codes_at w c.args.xs.now c.loop-j.j c.index-xs-j.is (omega arith)) (sym c.index.ensures.0 ∙ c.if-index-ne0.false))

pub returns : goal.returns
returns g c = zero_true _ _ _ (λ i h. c.loop-j.invariant i (omega arith))
