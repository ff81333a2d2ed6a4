use Rattle.std.proofs.Common.{◌∙◌, length}
use Rattle.symbol.proofs.Working.{working}
use Rattle.correcting.proofs.Rebuilt.{left_in, shares_in, rebuilding_of, without_of}
use Rattle.correcting.proofs.rebuild_without.Goals as goal

pub leave_helpers-requires : goal.leave_helpers-requires
leave_helpers-requires c =
    let a = c.args in
    let p = c.requires in
    left_in working a.l a.x a.helpers.now a.shares.now a.host.now a.k a.spare.now p.0 a.few.now p.1

pub leave_shares-requires : goal.leave_shares-requires
leave_shares-requires c =
    let a = c.args in
    let p = c.requires in
    shares_in working a.l a.x a.helpers.now a.shares.now a.host.now a.k a.spare.now p.0 c.group_count-total.result
    a.few.now c.leave_helpers.new.out a.sent.now c.group_count-total.ensures p.1 c.leave_helpers.ensures.long p.2

pub rebuild-requires : goal.rebuild-requires
rebuild-requires c =
    let a = c.args in
    let p = c.requires in
    rebuilding_of working a.l a.x a.helpers.now a.shares.now a.host.now a.k a.spare.now p.0 (length a.few.now)
    c.leave_helpers.new.out c.leave_shares.new.out p.1 c.leave_helpers.ensures (c.leave_shares.auto.out ∙ p.2)

pub returns : goal.returns
returns c =
    let a = c.args in
    let p = c.requires in
    without_of working a.l a.x a.helpers.now a.shares.now a.host.now a.k a.spare.now p.0 c.group_count-total.result (length a.few.now)
    (length c.leave_helpers.new.out) _ _ _ c.group_count-total.ensures p.1 c.leave_helpers.ensures.long c.leave_helpers.ensures c.leave_shares.ensures
    c.rebuild.ensures
