-- Made by tools/twin.py from crates/scrub/proofs/report_of/Answers.antt.
use Rattle.std.proofs.Common.{rules}
use Rattle.scrub.specs.Inner.{report_of}
use Rattle.scrub257.proofs.report_of.Goals as goal

pub returns-then-j-total : goal.returns-then-j-total
unfolding report_of
returns-then-j-total c = search rules

pub returns-then-n-eq0 : goal.returns-then-n-eq0
unfolding report_of
returns-then-n-eq0 c = search rules

pub returns : goal.returns
unfolding report_of
returns c = search rules
