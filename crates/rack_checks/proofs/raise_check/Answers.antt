use Rattle.std.proofs.Common.{arith, rules}
use Rattle.symbol.proofs.Working.{working}
use Rattle.rack_checks.proofs.Numbers.{base_small}
use Rattle.rack_checks.proofs.Raising.{raised_first, raised_run}
use Rattle.rack_checks.proofs.raise_check.Goals as goal

pub returns-then-t-eq0 : goal.returns-then-t-eq0
returns-then-t-eq0 c = search (raised_first working)

pub steps-requires : goal.steps-requires
steps-requires c = (search rules, search rules, search rules, search base_small, omega arith)

pub returns : goal.returns
returns c = search raised_run
