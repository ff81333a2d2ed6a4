-- Made by tools/twin.py from crates/pieces/proofs/repair_block/Answers.antt.
use Rattle.group.proofs.Repair.{repaired_piece}
use Rattle.symbol257.proofs.Working.{working}
use Rattle.symbol257.specs.Elem.{gf257}
use Rattle.pieces.proofs.Blocks.{repairing_of, space_of, summing_of}
use Rattle.pieces257.proofs.repair_block.Goals as goal

pub block_sums-requires : goal.block_sums-requires
block_sums-requires c =
    let a = c.args in
    summing_of gf257.order a.l a.lost.now a.helpers.now a.shares.now a.host.now a.w a.first a.spare.now a.sums.now
    a.sides.now a.found.now a.points.now a.coefs.now a.row.now a.cur.now c.requires.0 c.requires.1 c.requires.2 c.requires.3

pub repair_block-requires : goal.repair_block-requires
repair_block-requires c =
    let a = c.args in
    let k = c.block_sums.auto in (
      repairing_of gf257.order a.l a.lost.now a.helpers.now a.shares.now a.host.now a.w a.first a.spare.now a.sums.now
          a.sides.now a.found.now a.points.now a.coefs.now a.row.now a.cur.now c.requires.0 c.requires.1 c.requires.2 c.requires.3 gf257 _
          k.sums,
      space_of gf257.order a.l a.lost.now a.helpers.now a.shares.now a.host.now a.w a.first a.spare.now a.sums.now
          a.sides.now a.found.now a.points.now a.coefs.now a.row.now a.cur.now c.requires.0 c.requires.1 c.requires.2 c.requires.3
          _ _ _ _ _ _
          k.sides k.found k.points k.coefs k.row k.cur,
      c.requires.0.spare_long,
    )

pub returns : goal.returns
returns c =
    let a = c.args in
    repaired_piece working a.l a.lost.now a.helpers.now a.shares.now a.host.now a.w a.first _ c.requires.0.adm c.requires.0.losses
    c.requires.1.block c.requires.1.inside c.block_sums.ensures a.spare.now _ c.repair_block.ensures
