-- Made by tools/twin.py from crates/repair/proofs/repair_lists/Answers.antt.
use Rattle.std.proofs.Common.{arith, ◌≡◌, length}
use Rattle.symbol257.specs.Elem.{gf257}
use Rattle.layout.proofs.Facts.{bounds}
use Rattle.repair.specs.Repair.{repair_refusal}
use Rattle.repair.proofs.Refusals.{repairable}
use Rattle.repair.proofs.Pieces.{piecing_of, crossing_in}
use Rattle.repair257.proofs.repair_lists.Goals as goal

pub group_count-requires : goal.group_count-requires
group_count-requires c =
    let a = c.args in
    let z : repair_refusal gf257 a.l a.lost.now a.helpers.now a.shares.now a.host.now (length a.spare.now) a.first a.budget ≡ 0 = cc in
    let g = repairable gf257 a.l a.lost.now a.helpers.now a.shares.now a.host.now (length a.spare.now) a.first a.budget z in
    g.adm.admissible.cabinet

pub overflow_sub-left : goal.overflow_sub-left
overflow_sub-left c =
    let a = c.args in
    let z : repair_refusal gf257 a.l a.lost.now a.helpers.now a.shares.now a.host.now (length a.spare.now) a.first a.budget ≡ 0 = cc in
    let g = repairable gf257 a.l a.lost.now a.helpers.now a.shares.now a.host.now (length a.spare.now) a.first a.budget z in
    omega (arith, c.group_count.ensures, g.first_in)

pub overflow_cast-first : goal.overflow_cast-first
overflow_cast-first c =
    let a = c.args in
    let z : repair_refusal gf257 a.l a.lost.now a.helpers.now a.shares.now a.host.now (length a.spare.now) a.first a.budget ≡ 0 = cc in
    let g = repairable gf257 a.l a.lost.now a.helpers.now a.shares.now a.host.now (length a.spare.now) a.first a.budget z in
    let b = bounds _ g.adm.admissible.cabinet in
    omega (arith, g.first_in, b.groups_high)

pub repair_groups-requires : goal.repair_groups-requires
repair_groups-requires c =
    let a = c.args in
    let z : repair_refusal gf257 a.l a.lost.now a.helpers.now a.shares.now a.host.now (length a.spare.now) a.first a.budget ≡ 0 = cc in
    let g = repairable gf257 a.l a.lost.now a.helpers.now a.shares.now a.host.now (length a.spare.now) a.first a.budget z in
    piecing_of _ _ _ _ _ _ _ _ _ g (omega (arith, c.smaller-count.ensures, c.group_count.ensures, g.first_in))

pub overflow_mul-result-2 : goal.overflow_mul-result-2
overflow_mul-result-2 c =
    let a = c.args in
    let z : repair_refusal gf257 a.l a.lost.now a.helpers.now a.shares.now a.host.now (length a.spare.now) a.first a.budget ≡ 0 = cc in
    let g = repairable gf257 a.l a.lost.now a.helpers.now a.shares.now a.host.now (length a.spare.now) a.first a.budget z in
    let b = bounds _ g.adm.admissible.cabinet in
    record { fits = crossing_in g _ (omega (arith, c.smaller-count.ensures, c.group_count.ensures, b.groups_high)) }

pub overflow_mul-result-4 : goal.overflow_mul-result-4
overflow_mul-result-4 c =
    let a = c.args in
    let z : repair_refusal gf257 a.l a.lost.now a.helpers.now a.shares.now a.host.now (length a.spare.now) a.first a.budget ≡ 0 = cc in
    let g = repairable gf257 a.l a.lost.now a.helpers.now a.shares.now a.host.now (length a.spare.now) a.first a.budget z in
    let b = bounds _ g.adm.admissible.cabinet in
    record { fits = crossing_in g _ (omega (arith, c.group_count.ensures, b.groups_high)) }
