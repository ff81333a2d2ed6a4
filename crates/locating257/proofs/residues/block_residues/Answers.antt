-- Made by tools/twin.py from crates/locating/proofs/residues/block_residues/Answers.antt.
use Rattle.std.proofs.Common.{arith, length}
use Rattle.symbol257.proofs.Working.{working}
use Rattle.locating.proofs.Parts.{work_pointed, work_next, work_helper, parts_none, parts_more, parts_end}
use Rattle.locating257.proofs.residues.block_residues.Goals as goal

pub unknown_points-requires : goal.unknown_points-requires
unknown_points-requires c =
    let a = c.args in
    work_pointed a.l a.h a.w a.first a.helpers.now a.shares.now a.sides.now a.points.now a.cur.now a.prod.now a.row.now c.requires

pub loop-k-init : goal.loop-k-init
loop-k-init c =
    let a = c.args in
    record { parts = parts_none working a.l a.h a.w a.first a.helpers.now a.shares.now _ _ c.fill.ensures; points = c.unknown_points.ensures }

pub add_part-requires : goal.add_part-requires
add_part-requires c =
    let a = c.args in (
      work_next a.l a.h a.w a.first a.helpers.now a.shares.now a.sides.now a.points.now a.cur.now a.prod.now a.row.now c.requires _ _ _ _ _
          (omega arith) (omega arith) (omega arith) (omega arith) (omega arith),
      work_helper a.l a.h a.w a.first a.helpers.now a.shares.now a.sides.now a.points.now a.cur.now a.prod.now a.row.now c.requires _ (omega arith),
      c.loop-k.invariant.points,
    )

pub loop-k-preserved : goal.loop-k-preserved
loop-k-preserved c =
    let a = c.args in
    let d = c.add_part.ensures in
    record { parts = parts_more working a.l a.h a.w a.first a.helpers.now a.shares.now _ _ _ c.loop-k.invariant.parts d.part; points = d.points }

pub returns : goal.returns
returns c =
    let a = c.args in
    parts_end working a.l a.h a.w a.first a.helpers.now a.shares.now _ (length a.helpers.now) _ c.loop-k.invariant.parts (omega arith) (omega arith)
    c.requires.chosen.many
