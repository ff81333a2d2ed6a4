use Rattle.std.proofs.Common.{arith, rules}
use Rattle.symbol.proofs.Working.{working}
use Rattle.rack_checks.proofs.Numbers.{three_in, five_in}
use Rattle.rack_checks.proofs.Places.{places_whole, last_weighed}
use Rattle.rack_checks.proofs.rack_sum.Goals as goal

pub weigh_three-requires : goal.weigh_three-requires
weigh_three-requires c = (search rules, search three_in, omega arith, λ e. search (last_weighed working))

pub returns-then-u-eq3 : goal.returns-then-u-eq3
returns-then-u-eq3 c = search (places_whole working)

pub weigh_five-requires : goal.weigh_five-requires
weigh_five-requires c = (search rules, search five_in, omega arith)

pub returns-then-u-eq5 : goal.returns-then-u-eq5
returns-then-u-eq5 c = search (places_whole working)
