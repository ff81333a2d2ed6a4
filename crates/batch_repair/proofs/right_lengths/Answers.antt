use Rattle.std.proofs.Common.{arith}
use Rattle.std.proofs.Math.Nat.{mul-pos}
use Rattle.lists.proofs.Numbers.{mul_below}
use Rattle.layout.specs.Layout.{tray_limit, layer_limit}
use Rattle.layout.proofs.Facts.{bounds}
use Rattle.repair.proofs.Refusals.{traffic_pos}
use Rattle.batch_repair.proofs.Refusals.{lengths_1, lengths_2, lengths_3}
use Rattle.batch_repair.proofs.right_lengths.Goals as goal

pub overflow_mul-d : goal.overflow_mul-d
overflow_mul-d c =
    let b = bounds _ c.requires in
    record {
      fits = mul_below tray_limit layer_limit (omega (arith, c.requires.helpers_high)) (omega (
        arith,
        c.group_count-groups.ensures,
        b.groups_high,
      )) tt;
    }

pub is_times-requires : goal.is_times-requires
is_times-requires c = rw c.group_count-groups.ensures (traffic_pos _ c.requires)

pub returns-then-not-is_times : goal.returns-then-not-is_times
returns-then-not-is_times c = search lengths_1

pub overflow_mul-u : goal.overflow_mul-u
overflow_mul-u c =
    let b = bounds _ c.requires in
    record {
      fits = mul_below tray_limit layer_limit (omega arith) (omega (
        arith,
        c.layer_count-total.ensures,
        c.requires.layers_high,
      )) tt;
    }

pub is_times-requires-2 : goal.is_times-requires-2
is_times-requires-2 c = let b = bounds _ c.requires in mul-pos b.size_low (omega (arith, c.layer_count-total.ensures, b.layers_low))

pub returns-then-not-is_times-2 : goal.returns-then-not-is_times-2
returns-then-not-is_times-2 c = search lengths_2

pub is_times-requires-3 : goal.is_times-requires-3
is_times-requires-3 c = let b = bounds _ c.requires in omega (arith, c.layer_count-total.ensures, b.layers_low)

pub returns : goal.returns
returns c = search lengths_3
