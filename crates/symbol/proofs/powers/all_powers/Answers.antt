use Rattle.std.proofs.Common.{refl, ◌∙◌}
use Rattle.symbol.proofs.Tables.{powers, powers_rule}
use Rattle.symbol.proofs.Working.{zpow_is}
use Rattle.symbol.proofs.powers.all_powers.Goals as goal

pub returns : goal.returns
unfolding powers
returns c = record { long = refl; at = λ i h. powers_rule i h ∙ zpow_is i }
