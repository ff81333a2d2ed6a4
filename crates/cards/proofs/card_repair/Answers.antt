use Rattle.std.proofs.Common.{◌<◌, arith}
use Rattle.layout.specs.Layout.{groups}
use Rattle.symbol.proofs.Working.{working}
use Rattle.cards.proofs.Answers.{card_repairing_of, done_of, repair_given, repair_wrong}
use Rattle.cards.proofs.Answers.{repair_cabinet, repair_group, repair_host, repair_inside}
use Rattle.cards.proofs.card_repair.Goals as goal

pub nonzero_div-x : goal.nonzero_div-x
nonzero_div-x c = search (repair_host working)

pub overflow_cast-group : goal.overflow_cast-group
overflow_cast-group c = search (repair_group working)

pub right_card-requires : goal.right_card-requires
right_card-requires c =
    let a = c.args in
    repair_given working a.l a.lost.0 _ a.helpers.now a.card.now a.shares.now a.host.now a.group a.spare.now c.number-x.ensures _
    c.repair_ground-ground.ensures c.if-ground-ne0.false

pub returns-then-not-right_card : goal.returns-then-not-right_card
returns-then-not-right_card c = search (repair_wrong working)

pub overflow_cast-group-2 : goal.overflow_cast-group-2
overflow_cast-group-2 c = search (repair_group working)

pub repair_by_card-requires : goal.repair_by_card-requires
repair_by_card-requires c = search (card_repairing_of working)

pub group_count-requires : goal.group_count-requires
group_count-requires c = search (repair_cabinet working)

pub overflow_sub-result : goal.overflow_sub-result
overflow_sub-result c =
    let h : c.args.group < groups c.args.l = search (repair_inside working) in
    omega (arith, c.group_count.ensures)

pub overflow_sub-result-2 : goal.overflow_sub-result-2
overflow_sub-result-2 c =
    let h : c.args.group < groups c.args.l = search (repair_inside working) in
    omega (arith, c.group_count.ensures)

pub returns : goal.returns
returns c = search (done_of working)
