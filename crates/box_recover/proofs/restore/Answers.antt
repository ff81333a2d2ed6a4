use Rattle.box_recover.proofs.Steps.{restored_is}
use Rattle.box_recover.proofs.restore.Goals as goal

pub returns : goal.returns
returns c = search restored_is
