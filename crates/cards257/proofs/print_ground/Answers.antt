-- Made by tools/twin.py from crates/cards/proofs/print_ground/Answers.antt.
use Rattle.cards.proofs.Grounds.{cabinet_so, print_1, print_2, print_3, print_rest}
use Rattle.cards257.proofs.print_ground.Goals as goal

pub returns-then-not-admits : goal.returns-then-not-admits
returns-then-not-admits c = search print_1

pub digit_count-requires : goal.digit_count-requires
digit_count-requires c = search cabinet_so

pub returns-then-card-digit_count : goal.returns-then-card-digit_count
returns-then-card-digit_count c = search print_2

pub in_layout-requires : goal.in_layout-requires
in_layout-requires c = search cabinet_so

pub returns-then-not-in_layout : goal.returns-then-not-in_layout
returns-then-not-in_layout c = search print_3

pub helpers_ground-requires : goal.helpers_ground-requires
helpers_ground-requires c = search cabinet_so

pub returns : goal.returns
returns c = search print_rest
