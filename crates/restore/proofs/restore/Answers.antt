use Rattle.restore.proofs.Room.{space}
use Rattle.restore.proofs.restore.Goals as goal

pub restore_blocks-requires : goal.restore_blocks-requires
restore_blocks-requires c =
    let s = space c.args.l c.block_digits-e.result c.block_digits-e.ensures.1 c.block_digits-e.ensures.2 in
    (c.block_digits-e.ensures.0, c.requires, s, s.row_long)
