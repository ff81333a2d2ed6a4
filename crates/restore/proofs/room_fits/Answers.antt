use Rattle.restore.proofs.Room.{space}
use Rattle.restore.proofs.room_fits.Goals as goal

pub blocks_fit-requires : goal.blocks_fit-requires
blocks_fit-requires c =
    let s = space c.args.l c.block_digits-e.result c.block_digits-e.ensures.1 c.block_digits-e.ensures.2 in
    (c.block_digits-e.ensures.0, c.requires, s, s.row_long)
