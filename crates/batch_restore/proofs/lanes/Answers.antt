use Rattle.batch_restore.proofs.Rows.{lanes_is}
use Rattle.batch_restore.proofs.lanes.Goals as goal

pub returns : goal.returns
returns c = search lanes_is
