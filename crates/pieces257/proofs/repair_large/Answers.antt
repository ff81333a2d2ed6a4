-- Made by tools/twin.py from crates/pieces/proofs/repair_large/Answers.antt.
use Rattle.std.proofs.Common.{rules}
use Rattle.pieces.proofs.Blocks.{rooms, spacious}
use Rattle.pieces257.proofs.repair_large.Goals as goal

pub repair_blocks-requires : goal.repair_blocks-requires
repair_blocks-requires c = (search rules, search spacious, rooms)
