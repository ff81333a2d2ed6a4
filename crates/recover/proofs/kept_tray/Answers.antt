use Rattle.std.proofs.Common.{rules}
use Rattle.recover.specs.Inner.{kept_tray}
use Rattle.recover.proofs.kept_tray.Goals as goal

pub returns-then-not-is_absent : goal.returns-then-not-is_absent
unfolding kept_tray
returns-then-not-is_absent c = search rules

pub returns : goal.returns
unfolding kept_tray
returns c = search rules
