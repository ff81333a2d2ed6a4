use Rattle.std.proofs.Common.{rules, tests, sym}
use Rattle.symbol.specs.Elem.{gf256}
use Rattle.layout.proofs.Facts.{with_facts}
use Rattle.batch_repair.specs.RepairBatch.{repair_batch_refusal}
use Rattle.batch_repair.proofs.Refusals.{return_6, return_7, return_8, wide_of}
use Rattle.batch_repair.proofs.refusal.Goals as goal

pub returns-then-not-admitted_with : goal.returns-then-not-admitted_with
unfolding repair_batch_refusal
returns-then-not-admitted_with c = search (rules, tests)

pub right_lengths-requires : goal.right_lengths-requires
right_lengths-requires c = (with_facts _ _ _ (sym c.if-not-admitted_with.ensures)).admissible.cabinet

pub returns-then-not-right_lengths : goal.returns-then-not-right_lengths
unfolding repair_batch_refusal
returns-then-not-right_lengths c = search (rules, tests)

pub tray_count-requires : goal.tray_count-requires
tray_count-requires c = (with_facts _ _ _ (sym c.if-not-admitted_with.ensures)).admissible.cabinet

pub returns-then-tray_count-x : goal.returns-then-tray_count-x
unfolding repair_batch_refusal
returns-then-tray_count-x c = search (rules, tests)

pub returns-then-not-all_below : goal.returns-then-not-all_below
unfolding repair_batch_refusal
returns-then-not-all_below c = search (rules, tests)

pub batch_symbols-requires : goal.batch_symbols-requires
batch_symbols-requires c = let k = (with_facts _ _ _ (sym c.if-not-admitted_with.ensures)).admissible.cabinet in search wide_of

pub returns-then-not-batch_symbols : goal.returns-then-not-batch_symbols
unfolding repair_batch_refusal
returns-then-not-batch_symbols c = search (rules, tests)

pub helpers_ground-ground-requires : goal.helpers_ground-ground-requires
helpers_ground-ground-requires c = (with_facts _ _ _ (sym c.if-not-admitted_with.ensures)).admissible.cabinet

pub returns-then-ground-ne0 : goal.returns-then-ground-ne0
returns-then-ground-ne0 c = search (return_6 gf256)

pub group_count-requires : goal.group_count-requires
group_count-requires c = (with_facts _ _ _ (sym c.if-not-admitted_with.ensures)).admissible.cabinet

pub returns-then-group_count-first : goal.returns-then-group_count-first
returns-then-group_count-first c = search (return_7 gf256)

pub returns : goal.returns
returns c = search (return_8 gf256)
