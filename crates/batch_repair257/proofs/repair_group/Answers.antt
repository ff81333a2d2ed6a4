-- Made by tools/twin.py from crates/batch_repair/proofs/repair_group/Answers.antt.
use Rattle.std.proofs.Common.{arith}
use Rattle.symbol257.proofs.Working.{working}
use Rattle.layout.proofs.Facts.{bounds}
use Rattle.batch_repair.proofs.Pieces.{grouped, layering, group_piece}
use Rattle.batch_repair257.proofs.repair_group.Goals as goal

pub nonzero_div-x : goal.nonzero_div-x
nonzero_div-x c = (bounds _ c.requires.adm.admissible.cabinet).size_low

pub right_multipliers-requires : goal.right_multipliers-requires
right_multipliers-requires c =
    let a = c.args in
    (grouped working a.l a.many a.x a.helpers.now a.shares.now a.host.now a.p a.spare.now c.requires, omega arith)

pub repair_layers-requires : goal.repair_layers-requires
repair_layers-requires c =
    let a = c.args in
    layering working a.l a.many a.x a.helpers.now a.shares.now a.host.now a.p a.spare.now c.requires _ (omega (
      arith,
      c.right_multipliers.auto,
    ))

pub returns : goal.returns
returns c =
    let a = c.args in
    group_piece working a.l a.many a.x a.helpers.now a.shares.now a.host.now a.p a.spare.now c.requires _ c.right_multipliers.ensures _
    c.repair_layers.ensures
