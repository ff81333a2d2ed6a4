-- Made by tools/twin.py from crates/recover/proofs/refusal/Answers.antt.
use Rattle.std.proofs.Common.{rules, tests, sym}
use Rattle.layout.proofs.Facts.{admissible_facts}
use Rattle.recover.specs.Recover.{recover_refusal}
use Rattle.recover257.proofs.refusal.Goals as goal

pub returns-then-not-admitted : goal.returns-then-not-admitted
unfolding recover_refusal
returns-then-not-admitted c = search (rules, tests)

pub layer_count-total-requires : goal.layer_count-total-requires
layer_count-total-requires c = (admissible_facts _ _ (sym c.if-not-admitted.ensures)).cabinet

pub tray_count-n-requires : goal.tray_count-n-requires
tray_count-n-requires c = (admissible_facts _ _ (sym c.if-not-admitted.ensures)).cabinet

pub returns-then-c-n : goal.returns-then-c-n
unfolding recover_refusal
returns-then-c-n c = search (rules, tests)

pub returns-then-not-all_below : goal.returns-then-not-all_below
unfolding recover_refusal
returns-then-not-all_below c = search (rules, tests)

pub kept_symbols-requires : goal.kept_symbols-requires
kept_symbols-requires c = let a = (admissible_facts _ _ (sym c.if-not-admitted.ensures)).cabinet in search rules

pub returns-then-not-kept_symbols : goal.returns-then-not-kept_symbols
unfolding recover_refusal
returns-then-not-kept_symbols c = search (rules, tests)

pub returns-then-not-strictly_rising : goal.returns-then-not-strictly_rising
unfolding recover_refusal
returns-then-not-strictly_rising c = search (rules, tests)

pub check_count-requires : goal.check_count-requires
check_count-requires c = (admissible_facts _ _ (sym c.if-not-admitted.ensures)).cabinet

pub returns-then-check_count-es : goal.returns-then-check_count-es
unfolding recover_refusal
returns-then-check_count-es c = search (rules, tests)

pub returns : goal.returns
unfolding recover_refusal
returns c = search (rules, tests)
