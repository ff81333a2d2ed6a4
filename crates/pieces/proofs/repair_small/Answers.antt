use Rattle.std.proofs.Common.{rules}
use Rattle.pieces.proofs.Blocks.{few_spacious, small_rooms}
use Rattle.pieces.proofs.repair_small.Goals as goal

pub repair_blocks-requires : goal.repair_blocks-requires
repair_blocks-requires c = (search rules, search few_spacious, small_rooms)
