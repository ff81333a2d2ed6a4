use Rattle.std.proofs.Common.{rules}
use Rattle.symbol.proofs.Working.{working}
use Rattle.sums.proofs.Steps.{digit_in, powers_of}
use Rattle.sums.proofs.rack_powers.Goals as goal

pub digit_powers-requires : goal.digit_powers-requires
digit_powers-requires c = (search rules, search digit_in, search rules)

pub returns : goal.returns
returns c = search (powers_of working)
