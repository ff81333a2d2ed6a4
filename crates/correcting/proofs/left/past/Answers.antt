use Rattle.correcting.proofs.Lists.{past_low, past_high}
use Rattle.correcting.proofs.left.past.Goals as goal

pub returns-then-i-k : goal.returns-then-i-k
returns-then-i-k c = search past_low

pub returns : goal.returns
returns c = search past_high
