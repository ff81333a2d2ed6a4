use Rattle.std.proofs.Common.{rules}
use Rattle.weigh.proofs.Bits.{mixed_none, mixed_more, mixed_end}
use Rattle.weigh.proofs.mixed.Goals as goal

pub loop-k-init : goal.loop-k-init
loop-k-init c = mixed_none _ _ _ _ _ _ _ _ (search rules) (search rules) (search rules) (search rules)

pub loop-k-preserved : goal.loop-k-preserved
loop-k-preserved c = search mixed_more

pub returns : goal.returns
returns c = search mixed_end
