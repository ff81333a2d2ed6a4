use Rattle.std.proofs.Common.{arith}
use Rattle.box_words.proofs.SumLoops.{sums_none, sums_more, powers_none, powers_more, term, term_is, value_end}
use Rattle.box_words.proofs.value_at.Goals as goal

pub loop-coefficient-init : goal.loop-coefficient-init
loop-coefficient-init c = record { sums = sums_none _; power_is = powers_none _ }

pub loop-coefficient-preserved : goal.loop-coefficient-preserved
loop-coefficient-preserved c =
    let a = c.args in
    let i = c.loop-coefficient in
    let t = i.coefficient-index in
    record {
      sums = sums_more (term a.d.now a.q) t _ _ _ _ i.invariant.sums c.add_product-sum.ensures
          (term_is a.d.now a.q t _ i.invariant.power_is);
      power_is = powers_more a.q t _ _ i.invariant.power_is c.mul-power.ensures;
    }

pub returns : goal.returns
returns c = value_end c.args.d.now c.args.q c.loop-coefficient.coefficient-index _ (omega arith) c.loop-coefficient.invariant.sums
