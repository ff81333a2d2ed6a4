use Rattle.symbol.specs.Elem.{gf256}
use Rattle.correcting.proofs.Answers.{sent_room, cut_sent, cut_fits}
use Rattle.correcting.proofs.rebuild_in.Goals as goal

pub slice_bounds-rebuild_without-end-3 : goal.slice_bounds-rebuild_without-end-3
slice_bounds-rebuild_without-end-3 c =
    let a = c.args in
    let p = c.requires in
    sent_room gf256.order a.l a.x a.helpers.now a.shares.now a.host.now a.k a.spare.now p.0 _ a.sent.now c.group_count.ensures p.2

pub slice_bounds-rebuild_without-end-4 : goal.slice_bounds-rebuild_without-end-4
slice_bounds-rebuild_without-end-4 c =
    let a = c.args in
    let p = c.requires in
    cut_sent gf256.order a.l a.x a.helpers.now a.shares.now a.host.now a.k a.spare.now p.0 _ a.sent.now c.group_count.ensures p.2

pub rebuild_without-requires : goal.rebuild_without-requires
rebuild_without-requires c =
    let a = c.args in
    let p = c.requires in
    let f = cut_fits gf256.order a.l a.x a.helpers.now a.shares.now a.host.now a.k a.spare.now p.0 _ a.few.now a.sent.now c.group_count.ensures p.1 p.2 in
    (p.0, f.0, f.1)
