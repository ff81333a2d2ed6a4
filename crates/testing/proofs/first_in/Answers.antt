use Rattle.std.proofs.Common.{arith, below_more}
use Rattle.testing.proofs.Blocks.{zero_so, zero_not}
use Rattle.testing.proofs.first_in.Goals as goal

pub loop-t-preserved : goal.loop-t-preserved
loop-t-preserved g c = record {
  zeros = below_more _ _ c.loop-t.invariant.zeros (zero_so _ _ c.is_zero.ensures c.if-not-is_zero.false);
  none = c.loop-t.invariant.none;
}

pub layers-preserved : goal.layers-preserved
layers-preserved g c = record {
  zeros = below_more _ _ c.layers.invariant.zeros (λ v h. c.loop-t.invariant.zeros v (omega arith));
  none = c.loop-t.invariant.none;
}

pub returns-after-layers : goal.returns-after-layers
returns-after-layers g c =
    let e = c.layers.invariant.none in
    record {
      column_in = omega arith;
      earlier = λ i h. c.layers.invariant.zeros i (omega arith);
      check_in = λ h. absurd (omega arith);
      broken = λ h. absurd (omega arith);
      below = λ h. absurd (omega arith);
    }

pub returns-then-not-is_zero : goal.returns-then-not-is_zero
returns-then-not-is_zero g c = record {
  column_in = omega arith;
  earlier = c.layers.invariant.zeros;
  check_in = λ h. omega arith;
  broken = λ h. zero_not _ _ c.is_zero.ensures c.if-not-is_zero.true;
  below = λ h. c.loop-t.invariant.zeros;
}
