-- Made by tools/twin.py from crates/locating/proofs/locate/Answers.antt.
use Rattle.locating.proofs.Blocks.{rooms}
use Rattle.locating257.proofs.locate.Goals as goal

pub locate_in-requires : goal.locate_in-requires
locate_in-requires c = (c.requires, rooms)
