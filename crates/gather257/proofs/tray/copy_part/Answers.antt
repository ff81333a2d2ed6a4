-- Made by tools/twin.py from crates/gather/proofs/tray/copy_part/Answers.antt.
use Rattle.gather.proofs.Parts.{part_copied}
use Rattle.gather257.proofs.tray.copy_part.Goals as goal

pub returns : goal.returns
returns c = search part_copied
