use Rattle.std.proofs.Common.{rules}
use Rattle.symbol.proofs.Working.{working}
use Rattle.sums.proofs.Points.{host_row, other_high, other_not, other_rack, other_row}
use Rattle.sums.proofs.unknown_row.Goals as goal

pub returns-then-x-s : goal.returns-then-x-s
returns-then-x-s c = search (host_row working)

pub skipped-requires : goal.skipped-requires
skipped-requires c = search other_high

pub rack_powers-requires : goal.rack_powers-requires
rack_powers-requires c = (search rules, search rules, search other_rack, search other_not, search rules, search rules)

pub returns : goal.returns
returns c = search (other_row working)
