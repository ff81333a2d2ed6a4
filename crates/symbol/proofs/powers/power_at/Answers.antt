use Rattle.std.proofs.Common.{rules}
use Rattle.symbol.proofs.Tables.{powers, powers_rule}
use Rattle.symbol.proofs.powers.power_at.Goals as goal

pub returns : goal.returns
unfolding powers
returns c = powers_rule c.args.i (search rules)
