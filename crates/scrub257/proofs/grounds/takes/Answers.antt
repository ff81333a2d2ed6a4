-- Made by tools/twin.py from crates/scrub/proofs/grounds/takes/Answers.antt.
use Rattle.std.proofs.Common.{rules}
use Rattle.scrub.specs.Scrub.{plausible}
use Rattle.scrub257.proofs.grounds.takes.Goals as goal

pub returns-then-total-j : goal.returns-then-total-j
unfolding plausible
returns-then-total-j c = search rules

pub returns-then-j-n : goal.returns-then-j-n
unfolding plausible
returns-then-j-n c = search rules

pub returns-then-n-eq0 : goal.returns-then-n-eq0
unfolding plausible
returns-then-n-eq0 c = search rules

pub returns : goal.returns
unfolding plausible
returns c = search rules
