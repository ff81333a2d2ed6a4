-- Made by tools/twin.py from crates/test_kept/proofs/first/fits/Answers.antt.
use Rattle.test_kept.proofs.Blocks.{row_room, wide_room}
use Rattle.test_kept257.proofs.first.fits.Goals as goal

pub block_fits-requires : goal.block_fits-requires
block_fits-requires c =
    let b = c.requires.0 in
    (b.block, b.digits_in, b.width_is, c.requires.1, wide_room _ _ _ _ b, row_room _ _ _ _ b)
