-- Made by tools/twin.py from crates/batch_store/proofs/refusal/Answers.antt.
use Rattle.std.proofs.Common.{rules, tests, sym}
use Rattle.layout.proofs.Facts.{admissible_facts}
use Rattle.batch_store.specs.Store.{batch_store_refusal}
use Rattle.batch_store.proofs.Grounds.{data_fits, data_some, room_fits, room_some}
use Rattle.batch_store257.proofs.refusal.Goals as goal

pub returns-then-not-admitted : goal.returns-then-not-admitted
unfolding batch_store_refusal
returns-then-not-admitted c = search (rules, tests)

pub layer_count-total-requires : goal.layer_count-total-requires
layer_count-total-requires c = (admissible_facts _ _ (sym c.if-not-admitted.ensures)).cabinet

pub overflow_mul-k : goal.overflow_mul-k
overflow_mul-k c = let a = (admissible_facts _ _ (sym c.if-not-admitted.ensures)).cabinet in search data_fits

pub is_times-requires : goal.is_times-requires
is_times-requires c = let a = (admissible_facts _ _ (sym c.if-not-admitted.ensures)).cabinet in search data_some

pub returns-then-not-is_times : goal.returns-then-not-is_times
unfolding batch_store_refusal
returns-then-not-is_times c = search (rules, tests)

pub tray_count-requires : goal.tray_count-requires
tray_count-requires c = (admissible_facts _ _ (sym c.if-not-admitted.ensures)).cabinet

pub overflow_mul-tray_count : goal.overflow_mul-tray_count
overflow_mul-tray_count c = let a = (admissible_facts _ _ (sym c.if-not-admitted.ensures)).cabinet in search room_fits

pub is_times-requires-2 : goal.is_times-requires-2
is_times-requires-2 c = let a = (admissible_facts _ _ (sym c.if-not-admitted.ensures)).cabinet in search room_some

pub returns-then-not-is_times-2 : goal.returns-then-not-is_times-2
unfolding batch_store_refusal
returns-then-not-is_times-2 c = search (rules, tests)

pub returns-then-not-are_symbols : goal.returns-then-not-are_symbols
unfolding batch_store_refusal
returns-then-not-are_symbols c = search (rules, tests)

pub returns : goal.returns
unfolding batch_store_refusal
returns c = search (rules, tests)
