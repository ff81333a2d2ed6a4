use Rattle.std.proofs.Common.{refl}
use Rattle.symbol257.proofs.Tables.{powers, powers_rule}
use Rattle.symbol257.proofs.powers.all_powers.Goals as goal

pub returns : goal.returns
unfolding powers
returns c = record { long = refl; at = powers_rule }
