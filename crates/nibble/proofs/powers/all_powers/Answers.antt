use Rattle.nibble.proofs.Tables.{powers, powers_rule}
use Rattle.nibble.proofs.powers.all_powers.Goals as goal

pub returns : goal.returns
unfolding powers
returns c = powers_rule
