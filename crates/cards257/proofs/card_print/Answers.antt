-- Made by tools/twin.py from crates/cards/proofs/card_print/Answers.antt.
use Rattle.symbol257.proofs.Working.{working}
use Rattle.cards.proofs.Answers.{print_done, print_given, print_group, print_host}
use Rattle.cards257.proofs.card_print.Goals as goal

pub nonzero_div-x : goal.nonzero_div-x
nonzero_div-x c = search (print_host working)

pub overflow_cast-group : goal.overflow_cast-group
overflow_cast-group c = search (print_group working)

pub print_card-requires : goal.print_card-requires
print_card-requires c =
    let a = c.args in
    print_given working a.l a.lost.0 _ a.helpers.now a.group a.card.now c.number-x.ensures _
    c.print_ground-ground.ensures c.if-ground-ne0.false

pub returns : goal.returns
returns c = search (print_done working)
