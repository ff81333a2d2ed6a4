use Rattle.std.proofs.Common.{◌≡◌, ◌-◌, ◌<◌, ◌≤◌, min, length, refl, sym, ap, ◌∙◌, arith}
use Rattle.lists.proofs.Numbers.{mul_below}
use Rattle.symbol.specs.Elem.{gf256}
use Rattle.symbol.proofs.Working.{working}
use Rattle.layout.specs.Layout.{tray_limit, layer_limit, groups}
use Rattle.layout.proofs.Facts.{bounds}
use Rattle.batch_repair.specs.RepairBatch.{repair_batch_refusal}
use Rattle.batch_repair.proofs.Refusals.{told_of}
use Rattle.batch_repair.proofs.Pieces.{report_in, first_below, cabinet_of, answer_done}
use Rattle.batch_repair.proofs.repair_batch.Goals as goal
use Rattle.batch_repair.proofs.repair_batch.Goals.{After-refusal-ground, Else-ground-ne0, After-group_count}

-- the ground that was found, in terms of what the call was lent
found : (c : After-refusal-ground) → let a = c.args in
    c.refusal-ground.result
    ≡ repair_batch_refusal gf256 a.l a.many a.lost.0 a.helpers.now a.shares.now a.host.now (length a.spare.now) a.first a.budget
found c = let a = c.args in
    c.refusal-ground.ensures
    ∙ ap (λ x. repair_batch_refusal gf256 a.l a.many x a.helpers.now a.shares.now a.host.now (length a.spare.now) a.first a.budget)
    c.number-x.ensures

none : (c : Else-ground-ne0) → let a = c.args in
    repair_batch_refusal gf256 a.l a.many a.lost.0 a.helpers.now a.shares.now a.host.now (length a.spare.now) a.first a.budget ≡ 0
none c = let a = c.args in
    sym (c.refusal-ground.ensures
    ∙ ap (λ x. repair_batch_refusal gf256 a.l a.many x a.helpers.now a.shares.now a.host.now (length a.spare.now) a.first a.budget)
    c.number-x.ensures)
    ∙ c.if-ground-ne0.false

module _ (c : After-group_count) (no_ground : let a = c.args in
    repair_batch_refusal gf256 a.l a.many a.lost.0 a.helpers.now a.shares.now a.host.now (length a.spare.now) a.first a.budget ≡ 0) where
  first_in : c.args.first ≤ c.group_count.result
  first_in = let a = c.args in first_below working _ _ _ _ _ _ a.spare.now _ _ no_ground _ c.group_count.ensures

  high : (c.group_count.result ≤ layer_limit) × (c.args.l.helpers ≤ tray_limit)
  high =
      let a = c.args in
      let q = cabinet_of working _ _ _ _ _ _ a.spare.now _ _ no_ground in
      let b = bounds _ q in
      (omega (arith, c.group_count.ensures, b.groups_high), omega (arith, q.helpers_high, b.racks_high))

pub returns-then-ground-ne0 : goal.returns-then-ground-ne0
returns-then-ground-ne0 c = (found (goal.at.returns-then-ground-ne0 c).After-refusal-ground, omega (arith, c.if-ground-ne0.true), refl)

pub group_count-requires : goal.group_count-requires
group_count-requires c =
    let a = c.args in
    cabinet_of working _ _ _ _ _ _ a.spare.now _ _ (none c)

pub overflow_sub-left : goal.overflow_sub-left
overflow_sub-left c = let g = goal.at.overflow_sub-left c in first_in g.After-group_count (none g.Else-ground-ne0)

pub overflow_cast-first : goal.overflow_cast-first
overflow_cast-first c =
    let g = goal.at.overflow_cast-first c in
    omega (arith, first_in g.After-group_count (none g.Else-ground-ne0), (high g.After-group_count (none g.Else-ground-ne0)).0)

pub overflow_cast-count : goal.overflow_cast-count
overflow_cast-count c =
    let g = goal.at.overflow_cast-count c in
    omega (arith, c.smaller-count.ensures, (high g.After-group_count (none g.Else-ground-ne0)).0)

pub repair_groups-requires : goal.repair_groups-requires
repair_groups-requires c =
    let a = c.args in
    rw c.number-x.ensures (told_of working _ _ _ _ _ _ a.spare.now _ _ (none (goal.at.repair_groups-requires c).Else-ground-ne0) _
    (c.smaller-count.ensures ∙ ap (λ k. min a.budget (k - a.first)) c.group_count.ensures))

pub overflow_mul-result : goal.overflow_mul-result
overflow_mul-result c =
    let g = goal.at.overflow_mul-result c in
    let h = high g.After-group_count (none g.Else-ground-ne0) in
    record { fits = mul_below tray_limit layer_limit h.1 (omega (arith, c.smaller-count.ensures, h.0)) tt }

pub overflow_mul-result-2 : goal.overflow_mul-result-2
overflow_mul-result-2 c =
    let a = c.args in
    let e : c.smaller-count.result ≤ groups a.l = omega (arith, c.smaller-count.ensures, c.group_count.ensures) in
    let shares_fit : length a.shares.now < 18446744073709551616 = omega arith in
    omega (arith, report_in working _ _ _ _ _ _ a.spare.now _ _ (none (goal.at.overflow_mul-result-2 c).Else-ground-ne0) _ e, shares_fit)

pub overflow_mul-result-3 : goal.overflow_mul-result-3
overflow_mul-result-3 c =
    let g = goal.at.overflow_mul-result-3 c in
    let h = high g.After-group_count (none g.Else-ground-ne0) in
    record { fits = mul_below tray_limit layer_limit h.1 (omega (arith, h.0)) tt }

pub overflow_mul-result-4 : goal.overflow_mul-result-4
overflow_mul-result-4 c =
    let a = c.args in
    let e : c.group_count.result - a.first - c.smaller-count.result ≤ groups a.l = omega (arith, c.group_count.ensures) in
    let shares_fit : length a.shares.now < 18446744073709551616 = omega arith in
    omega (arith, report_in working _ _ _ _ _ _ a.spare.now _ _ (none (goal.at.overflow_mul-result-4 c).Else-ground-ne0) _ e, shares_fit)

pub returns : goal.returns
returns c =
    let a = c.args in
    answer_done working _ _ _ _ _ _ a.spare.now _ _ (none (goal.at.returns c).Else-ground-ne0) _ _ _ _ _ _ c.group_count.ensures
    c.smaller-count.ensures refl refl c.number-x.ensures c.repair_groups.ensures
