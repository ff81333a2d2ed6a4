-- Made by tools/twin.py from crates/cards/proofs/card_test/Answers.antt.
use Rattle.symbol257.proofs.Working.{working}
use Rattle.cards.proofs.Answers.{test_given, test_group, test_host, test_right, test_wrong}
use Rattle.cards257.proofs.card_test.Goals as goal

pub nonzero_div-x : goal.nonzero_div-x
nonzero_div-x c = search (test_host working)

pub overflow_cast-group : goal.overflow_cast-group
overflow_cast-group c = search (test_group working)

pub right_card-requires : goal.right_card-requires
right_card-requires c =
    let a = c.args in
    test_given working a.l a.lost.0 _ a.helpers.now a.card.now a.group c.number-x.ensures _
    c.test_ground-ground.ensures c.if-ground-ne0.false

pub returns-then-not-right_card : goal.returns-then-not-right_card
returns-then-not-right_card c = search (test_wrong working)

pub returns : goal.returns
returns c = search (test_right working)
