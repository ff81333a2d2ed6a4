use Rattle.std.proofs.Common.{rules, tests, sym}
use Rattle.layout.proofs.Facts.{admissible_facts}
use Rattle.store.specs.Store.{store_refusal}
use Rattle.store.proofs.refusal.Goals as goal

pub returns-then-not-admitted : goal.returns-then-not-admitted
unfolding store_refusal
returns-then-not-admitted c = search (rules, tests)

pub layer_count-total-requires : goal.layer_count-total-requires
layer_count-total-requires c = (admissible_facts _ _ (sym c.if-not-admitted.ensures)).cabinet

pub returns-then-given-k : goal.returns-then-given-k
unfolding store_refusal
returns-then-given-k c = search (rules, tests)

pub tray_count-requires : goal.tray_count-requires
tray_count-requires c = (admissible_facts _ _ (sym c.if-not-admitted.ensures)).cabinet

pub returns-then-room-tray_count : goal.returns-then-room-tray_count
unfolding store_refusal
returns-then-room-tray_count c = search (rules, tests)

pub returns-then-not-are_symbols : goal.returns-then-not-are_symbols
unfolding store_refusal
returns-then-not-are_symbols c = search (rules, tests)

pub returns : goal.returns
unfolding store_refusal
returns c = search (rules, tests)
