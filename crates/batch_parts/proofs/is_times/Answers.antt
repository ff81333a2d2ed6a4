use Rattle.batch_parts.proofs.Times.{times_no, times_rest}
use Rattle.batch_parts.proofs.is_times.Goals as goal

pub returns-then-len-a : goal.returns-then-len-a
returns-then-len-a c = search times_no

pub returns : goal.returns
returns c = search times_rest
