-- Made by tools/twin.py from crates/batch_restore/proofs/lanes/Answers.antt.
use Rattle.batch_restore.proofs.Rows.{lanes_is}
use Rattle.batch_restore257.proofs.lanes.Goals as goal

pub returns : goal.returns
returns c = search lanes_is
