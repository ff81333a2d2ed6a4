use Rattle.std.proofs.Common.{◌∙◌}
use Rattle.symbol.proofs.Tables.{zpow_mod}
use Rattle.symbol.proofs.Symbol.root_power.Goals as goal

pub returns : goal.returns
returns c = c.power_at.ensures ∙ zpow_mod c.args.e
