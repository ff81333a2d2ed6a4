use Rattle.grounds.proofs.Grounds.{times_false, times_test}
use Rattle.grounds.proofs.is_times.Goals as goal

pub returns-then-n-unit : goal.returns-then-n-unit
returns-then-n-unit c = times_false _ _ _ c.requires c.if-n-unit.true

pub returns : goal.returns
returns c = times_test _ _ _ c.requires c.if-n-unit.false
