use Rattle.gather.proofs.Parts.{part_copied}
use Rattle.gather.proofs.tray.copy_part.Goals as goal

pub returns : goal.returns
returns c = search part_copied
