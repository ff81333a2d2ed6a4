use Rattle.std.proofs.Common.{refl, arith}
use Rattle.symbol.proofs.Working.{working}
use Rattle.layout.proofs.Facts.{bounds}
use Rattle.batch_repair.proofs.Pieces.{pieces_none, pieces_more, pieces_end, told_next}
use Rattle.batch_repair.proofs.repair_groups.Goals as goal

pub loop-k-init : goal.loop-k-init
loop-k-init c = pieces_none working _ _ _ _ _ _ _ _

pub overflow_add-first : goal.overflow_add-first
overflow_add-first c = let p = c.requires in omega (arith, p.within, (bounds _ p.adm.admissible.cabinet).groups_high, c.loop-k-test.true)

pub repair_group-requires : goal.repair_group-requires
repair_group-requires c =
    let a = c.args in
    told_next working a.l a.many a.x a.helpers.now a.shares.now a.host.now a.first a.count _ _ a.spare.now _
    c.requires refl c.loop-k-test.true c.loop-k.invariant.long

pub loop-k-preserved : goal.loop-k-preserved
loop-k-preserved c = search (pieces_more working)

pub returns : goal.returns
returns c = search (pieces_end working)
