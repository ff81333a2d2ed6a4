-- Made by tools/twin.py from crates/sums/proofs/group_digit/Answers.antt.
use Rattle.sums.proofs.Steps.{digit_above_host, digit_below_host}
use Rattle.sums257.proofs.group_digit.Goals as goal

pub returns-then-i-h : goal.returns-then-i-h
returns-then-i-h c = search digit_below_host

pub returns : goal.returns
returns c = search digit_above_host
