-- Made by tools/twin.py from crates/pieces/proofs/repair_groups/Answers.antt.
use Rattle.std.proofs.Common.{arith, mul-le-mul, rules, ◌≤◌}
use Rattle.layout.proofs.Facts.{bounds}
use Rattle.pieces.proofs.Blocks.{few_of}
use Rattle.pieces257.proofs.repair_groups.Goals as goal

pub overflow_mul-rows : goal.overflow_mul-rows
overflow_mul-rows c =
    let p = c.requires in
    let b = bounds _ p.adm.admissible.cabinet in
    let n : c.args.count ≤ 4096 = omega (arith, p.within, b.groups_high) in
    omega (arith, mul-le-mul c.row_count-rows.ensures.few n)

pub repair_small-requires : goal.repair_small-requires
repair_small-requires c = (search rules, search few_of)
