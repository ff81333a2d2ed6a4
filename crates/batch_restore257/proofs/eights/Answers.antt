-- Made by tools/twin.py from crates/batch_restore/proofs/eights/Answers.antt.
use Rattle.batch_restore.proofs.Rows.{eights_is}
use Rattle.batch_restore257.proofs.eights.Goals as goal

pub returns : goal.returns
returns c = search eights_is
