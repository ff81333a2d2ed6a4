-- Made by tools/twin.py from crates/cards/proofs/repair_ground/Answers.antt.
use Rattle.cards.proofs.Grounds.{cabinet_so, looking_of, measured_of, repair_1, repair_3, repair_card, repair_rest, repair_symbols}
use Rattle.cards.proofs.Grounds.{stop_card, stop_host, stop_shares, stop_spare}
use Rattle.symbol257.specs.Elem.{gf257}
use Rattle.cards257.proofs.repair_ground.Goals as goal

pub returns-then-not-admits : goal.returns-then-not-admits
returns-then-not-admits c = search repair_1

pub layer_count-total-requires : goal.layer_count-total-requires
layer_count-total-requires c = search cabinet_so

pub digit_count-requires : goal.digit_count-requires
digit_count-requires c = search cabinet_so

pub returns-then-card-digit_count : goal.returns-then-card-digit_count
returns-then-card-digit_count c = search stop_card

pub group_count-requires : goal.group_count-requires
group_count-requires c = search cabinet_so

pub returns-then-shares-d : goal.returns-then-shares-d
returns-then-shares-d c = search stop_shares

pub returns-then-host-u : goal.returns-then-host-u
returns-then-host-u c = search stop_host

pub returns-then-spare-total : goal.returns-then-spare-total
returns-then-spare-total c = search stop_spare

pub in_layout-requires : goal.in_layout-requires
in_layout-requires c = search cabinet_so

pub returns-then-not-in_layout : goal.returns-then-not-in_layout
returns-then-not-in_layout c = search repair_3

pub returns-then-not-are_symbols : goal.returns-then-not-are_symbols
returns-then-not-are_symbols c = search (repair_card, measured_of)

pub group_symbols-requires : goal.group_symbols-requires
group_symbols-requires c =
    let a = c.args in
    looking_of gf257 a.l a.x a.helpers.now a.group a.card.now a.shares.now a.host.now a.spare (search measured_of)

pub returns-then-not-group_symbols : goal.returns-then-not-group_symbols
returns-then-not-group_symbols c = search (repair_symbols, measured_of)

pub helpers_ground-requires : goal.helpers_ground-requires
helpers_ground-requires c = search cabinet_so

pub returns : goal.returns
returns c = search (repair_rest, measured_of)
