use Rattle.cards.proofs.Grounds.{cabinet_so, test_1, test_2, test_3, test_rest, test_symbols}
use Rattle.cards.proofs.test_ground.Goals as goal

pub returns-then-not-admits : goal.returns-then-not-admits
returns-then-not-admits c = search test_1

pub digit_count-requires : goal.digit_count-requires
digit_count-requires c = search cabinet_so

pub returns-then-card-digit_count : goal.returns-then-card-digit_count
returns-then-card-digit_count c = search test_2

pub in_layout-requires : goal.in_layout-requires
in_layout-requires c = search cabinet_so

pub returns-then-not-in_layout : goal.returns-then-not-in_layout
returns-then-not-in_layout c = search test_3

pub returns-then-not-are_symbols : goal.returns-then-not-are_symbols
returns-then-not-are_symbols c = search test_symbols

pub helpers_ground-requires : goal.helpers_ground-requires
helpers_ground-requires c = search cabinet_so

pub returns : goal.returns
returns c = search test_rest
