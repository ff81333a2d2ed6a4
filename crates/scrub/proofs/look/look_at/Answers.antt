use Rattle.std.proofs.Common.{rules}
use Rattle.scrub.specs.Inner.{look}
use Rattle.scrub.proofs.look.look_at.Goals as goal

pub returns-then-not-bad : goal.returns-then-not-bad
unfolding look
returns-then-not-bad c = search rules

pub returns-then-n-eq0 : goal.returns-then-n-eq0
unfolding look
returns-then-n-eq0 c = search rules

pub returns : goal.returns
unfolding look
returns c = search rules
