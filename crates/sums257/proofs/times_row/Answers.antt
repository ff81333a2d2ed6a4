-- Made by tools/twin.py from crates/sums/proofs/times_row/Answers.antt.
use Rattle.symbol257.proofs.Working.{working}
use Rattle.sums.proofs.Rows.{times_of}
use Rattle.sums257.proofs.times_row.Goals as goal

pub returns : goal.returns
returns c = search (times_of working)
