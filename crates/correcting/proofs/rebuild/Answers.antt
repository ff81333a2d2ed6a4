use Rattle.std.proofs.Common.{sym, subst}
use Rattle.symbol.proofs.Working.{working}
use Rattle.layout.specs.Layout.{Cabinet}
use Rattle.correcting.proofs.Layouts.{plain_cabinet}
use Rattle.correcting.proofs.Rebuilt.{piecing_of, rebuilt_of}
use Rattle.correcting.proofs.rebuild.Goals as goal

pub group_count-total-requires : goal.group_count-total-requires
group_count-total-requires c =
    let p = c.requires in
    subst Cabinet (sym c.plain_layout-plain.ensures) (plain_cabinet c.args.l p.adm.admissible.cabinet p.adm.errors_are c.args.n p.racks)

pub repair_groups-requires : goal.repair_groups-requires
repair_groups-requires c =
    let a = c.args in
    piecing_of working a.l a.n a.x a.helpers.now a.shares.now a.host.now a.spare.now c.requires c.plain_layout-plain.result c.group_count-total.result
    c.plain_layout-plain.ensures c.group_count-total.ensures

pub returns : goal.returns
returns c =
    let a = c.args in
    rebuilt_of working a.l a.n a.x a.helpers.now a.shares.now a.host.now a.spare.now c.requires c.plain_layout-plain.result c.group_count-total.result
    c.plain_layout-plain.ensures c.group_count-total.ensures _ c.repair_groups.ensures
