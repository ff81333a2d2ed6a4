use Rattle.std.proofs.Common.{arith}
use Rattle.layout.specs.Layout.{tray_limit, layer_limit}
use Rattle.lists.proofs.Numbers.{mul_below}
use Rattle.layout.proofs.Facts.{admissible_facts, bounds}
use Rattle.layout.proofs.Answer.{measured_refused, measured_known}
use Rattle.layout.proofs.measure.Goals as goal

pub returns-then-not-admitted : goal.returns-then-not-admitted
returns-then-not-admitted c = measured_refused _ _ (cc)

pub layer_count-requires : goal.layer_count-requires
layer_count-requires c = (admissible_facts c.args.order c.args.l (cc)).cabinet

pub check_count-requires : goal.check_count-requires
check_count-requires c = (admissible_facts c.args.order c.args.l (cc)).cabinet

pub group_count-requires : goal.group_count-requires
group_count-requires c = (admissible_facts c.args.order c.args.l (cc)).cabinet

pub overflow_mul-result : goal.overflow_mul-result
overflow_mul-result c =
    let a = (admissible_facts c.args.order c.args.l (cc)).cabinet in
    let b = bounds _ a in
    let g = c.group_count.ensures in
    record { fits = mul_below tray_limit layer_limit (omega arith) (omega arith) tt }

pub returns : goal.returns
returns c = measured_known _ _ _ _ _ (cc) c.layer_count.ensures c.check_count.ensures c.group_count.ensures
