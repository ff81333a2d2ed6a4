use Rattle.std.proofs.Common.{arith}
use Rattle.layout.proofs.Facts.{inadmissible, facts_admissible, size_not, size_facts, bounds}
use Rattle.layout.proofs.admitted.Goals as goal

pub returns-then-b-lt2 : goal.returns-then-b-lt2
returns-then-b-lt2 c = inadmissible _ _ (λ a. omega arith)

pub returns-then-not-size_allowed : goal.returns-then-not-size_allowed
returns-then-not-size_allowed c =
    inadmissible _ _ (λ a. size_not c.args.order c.args.l.size (cc) a.cabinet.size_low a.size_ok)

pub returns-then-b-gt-TRAYS : goal.returns-then-b-gt-TRAYS
returns-then-b-gt-TRAYS c = inadmissible _ _ (λ a. omega (arith, bounds _ a.cabinet))

pub returns-then-u-gt-TRAYS : goal.returns-then-u-gt-TRAYS
returns-then-u-gt-TRAYS c = inadmissible _ _ (λ a. omega (arith, bounds _ a.cabinet))

pub returns-then-n-gt-TRAYS : goal.returns-then-n-gt-TRAYS
returns-then-n-gt-TRAYS c = inadmissible _ _ (λ a. omega arith)

pub returns-then-k-u : goal.returns-then-k-u
returns-then-k-u c = inadmissible _ _ (λ a. omega arith)

pub returns-then-n-k : goal.returns-then-n-k
returns-then-n-k c = inadmissible _ _ (λ a. omega (arith, bounds _ a.cabinet))

pub returns-then-n-k-2 : goal.returns-then-n-k-2
returns-then-n-k-2 c = inadmissible _ _ (λ a. omega arith)

pub returns-then-e-gt1 : goal.returns-then-e-gt1
returns-then-e-gt1 c = inadmissible _ _ (λ a. omega arith)

pub nonzero_div-whole : goal.nonzero_div-whole
nonzero_div-whole c = (size_facts c.args.order c.args.l.size (cc)).0

pub returns-then-d-whole : goal.returns-then-d-whole
returns-then-d-whole c = inadmissible _ _ (λ a. omega arith)

pub returns-then-b-d : goal.returns-then-b-d
returns-then-b-d c = inadmissible _ _ (λ a. omega arith)

pub returns-then-capped_power-gt-LAYERS : goal.returns-then-capped_power-gt-LAYERS
returns-then-capped_power-gt-LAYERS c = inadmissible _ _ (λ a. omega arith)

pub returns : goal.returns
returns c =
    let s = size_facts c.args.order c.args.l.size (cc) in
    facts_admissible _ _ (record {
      cabinet = record {
        racks_low = omega arith;
        size_low = s.0;
        trays_high = omega arith;
        dimension_low = omega arith;
        checks_low = omega arith;
        helpers_low = omega arith;
        helpers_high = omega arith;
        layers_high = omega arith;
      };
      size_ok = s.1;
      errors_high = omega arith;
    })
