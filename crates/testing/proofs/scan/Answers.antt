use Rattle.std.proofs.Common.{refl}
use Rattle.testing.proofs.Room.{room}
use Rattle.testing.proofs.scan.Goals as goal

pub scan_blocks-requires : goal.scan_blocks-requires
scan_blocks-requires g c =
    let d = c.block_digits-e in
    (d.ensures.0, c.requires, refl, room c.args.l d.result c.zero-sums.result c.zero-cur.result c.zero-row.result d.ensures.1 d.ensures.2)
