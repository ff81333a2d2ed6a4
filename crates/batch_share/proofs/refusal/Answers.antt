use Rattle.std.proofs.Common.{rules, tests, arith, sym}
use Rattle.std.proofs.Math.Nat.{mul-pos}
use Rattle.lists.proofs.Numbers.{mul_below}
use Rattle.layout.specs.Layout.{tray_limit, layer_limit}
use Rattle.layout.proofs.Facts.{admissible_facts, bounds}
use Rattle.share.proofs.Sums.{groups_pos}
use Rattle.batch_share.specs.ShareBatch.{share_batch_refusal}
use Rattle.batch_share.proofs.refusal.Goals as goal

pub returns-then-not-admitted : goal.returns-then-not-admitted
unfolding share_batch_refusal
returns-then-not-admitted c = search (rules, tests)

pub layer_count-total-requires : goal.layer_count-total-requires
layer_count-total-requires c = (admissible_facts _ _ (sym c.if-not-admitted.ensures)).cabinet

pub group_count-groups-requires : goal.group_count-groups-requires
group_count-groups-requires c = (admissible_facts _ _ (sym c.if-not-admitted.ensures)).cabinet

pub overflow_mul-u : goal.overflow_mul-u
overflow_mul-u c =
    let k = (admissible_facts _ _ (sym c.if-not-admitted.ensures)).cabinet in
    let b = bounds _ k in
    record { fits = mul_below tray_limit layer_limit (omega arith) (omega (arith, c.layer_count-total.ensures, k.layers_high)) tt }

pub is_times-requires : goal.is_times-requires
is_times-requires c =
    let b = bounds _ (admissible_facts _ _ (sym c.if-not-admitted.ensures)).cabinet in
    mul-pos b.size_low (omega (arith, c.layer_count-total.ensures, b.layers_low))

pub returns-then-not-is_times : goal.returns-then-not-is_times
unfolding share_batch_refusal
returns-then-not-is_times c = search (rules, tests)

pub is_times-requires-2 : goal.is_times-requires-2
is_times-requires-2 c =
    omega (arith, groups_pos _ (admissible_facts _ _ (sym c.if-not-admitted.ensures)).cabinet, c.group_count-groups.ensures)

pub returns-then-not-is_times-2 : goal.returns-then-not-is_times-2
unfolding share_batch_refusal
returns-then-not-is_times-2 c = search (rules, tests)

pub returns-then-b-host : goal.returns-then-b-host
unfolding share_batch_refusal
returns-then-b-host c = search (rules, tests)

pub returns-then-b-helper : goal.returns-then-b-helper
unfolding share_batch_refusal
returns-then-b-helper c = search (rules, tests)

pub returns-then-not-are_symbols : goal.returns-then-not-are_symbols
unfolding share_batch_refusal
returns-then-not-are_symbols c = search (rules, tests)

pub returns-then-host-helper : goal.returns-then-host-helper
unfolding share_batch_refusal
returns-then-host-helper c = search (rules, tests)

pub returns : goal.returns
unfolding share_batch_refusal
returns c = search (rules, tests)
