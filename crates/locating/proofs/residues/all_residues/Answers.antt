use Rattle.std.proofs.Common.{arith}
use Rattle.symbol.proofs.Working.{working}
use Rattle.locating.proofs.Blocks.{kept_end, rows_few, rows_fit, within_layers, working_of, block_in}
use Rattle.locating.proofs.residues.all_residues.Goals as goal

pub overflow_add-rows : goal.overflow_add-rows
overflow_add-rows c = rows_fit c.args.l _ c.requires.0.chosen.adm c.unknown_count-rows.ensures

pub block_at-w-requires : goal.block_at-w-requires
block_at-w-requires c =
    let a = c.args in
    let p = c.requires in (
      p.0.chosen.adm,
      omega arith,
      within_layers a.l _ _ c.group_count-total.ensures (omega arith),
      rows_few a.l _ p.0.chosen.adm c.unknown_count-rows.ensures,
    )

pub keep_block-requires : goal.keep_block-requires
keep_block-requires c =
    let a = c.args in
    let p = c.requires in
    let t = c.group_count-total.ensures in
    let w = c.block_at-w.ensures in (
      working_of a.l a.h a.helpers.now a.shares.now a.zeroth.now a.first.now a.sides.now a.points.now a.cur.now a.prod.now a.row.now p.0 p.1
          _ _ _ _ _ _ _ _ _ c.unknown_count-rows.ensures t (omega arith) w.0 w.1 (omega arith) (omega arith) (omega arith) (omega arith) (omega arith),
      c.loop-p.invariant.kept,
      block_in a.l _ _ _ _ a.zeroth.now c.loop-p.zeroth p.0.chosen.adm t (omega arith) w.1 p.1.zeroth_long (omega arith),
      block_in a.l _ _ _ _ a.first.now c.loop-p.first p.0.chosen.adm t (omega arith) w.1 p.1.first_long (omega arith),
    )

pub loop-p-preserved : goal.loop-p-preserved
loop-p-preserved c = record { in_range = omega (arith, c.block_at-w.ensures.1.within); kept = c.keep_block.ensures }

pub returns : goal.returns
returns c =
    let a = c.args in
    let i = c.loop-p.invariant in
    kept_end working a.l a.h a.helpers.now a.shares.now _ _ _ _ i.kept i.in_range (omega arith) c.group_count-total.ensures
