use Rattle.symbol.specs.Elem.{gf256}
use Rattle.correcting.proofs.Refusals.{stop_1, stop_2_shares, stop_2_host, stop_2_spare, stop_3_tray, stop_3_helpers, stop_3_symbols, stop_4, stop_5, stop_6, pass_6, cabinet_so, long_so}
use Rattle.correcting.proofs.refusal.Goals as goal

pub returns-then-not-admitted_with : goal.returns-then-not-admitted_with
returns-then-not-admitted_with c = search stop_1

pub layer_count-total-requires : goal.layer_count-total-requires
layer_count-total-requires c = search (cabinet_so gf256.order)

pub group_count-requires : goal.group_count-requires
group_count-requires c = search (cabinet_so gf256.order)

pub tray_count-requires : goal.tray_count-requires
tray_count-requires c = search (cabinet_so gf256.order)

pub seen_symbols-requires : goal.seen_symbols-requires
seen_symbols-requires c = (search (cabinet_so gf256.order), long_so _ _ _ _ c.if-host-u.false c.layer_count-total.ensures)

pub returns-then-shares-d : goal.returns-then-shares-d
returns-then-shares-d c = search stop_2_shares

pub returns-then-host-u : goal.returns-then-host-u
returns-then-host-u c = search stop_2_host

pub returns-then-spare-total : goal.returns-then-spare-total
returns-then-spare-total c = search stop_2_spare

pub returns-then-tray_count-x : goal.returns-then-tray_count-x
returns-then-tray_count-x c = search stop_3_tray

pub returns-then-not-all_below : goal.returns-then-not-all_below
returns-then-not-all_below c = search stop_3_helpers

pub returns-then-not-seen_symbols : goal.returns-then-not-seen_symbols
returns-then-not-seen_symbols c = search stop_3_symbols

pub returns-then-not-strictly_rising : goal.returns-then-not-strictly_rising
returns-then-not-strictly_rising c = search stop_4

pub returns-then-helpers-d : goal.returns-then-helpers-d
returns-then-helpers-d c = search stop_5

pub returns-then-not-is_absent : goal.returns-then-not-is_absent
returns-then-not-is_absent c = search stop_6

pub returns : goal.returns
returns c = search pass_6
