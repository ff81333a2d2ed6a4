use Rattle.std.proofs.Common.{rules}
use Rattle.layout.specs.Layout.{size_allowed}
use Rattle.layout.proofs.size_allowed.Goals as goal

pub returns-then-u-eq0 : goal.returns-then-u-eq0
unfolding size_allowed
returns-then-u-eq0 c = search rules

pub returns : goal.returns
unfolding size_allowed
returns c = search rules
