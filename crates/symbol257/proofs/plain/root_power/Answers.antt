use Rattle.std.proofs.Common.{◌∙◌}
use Rattle.algebra.proofs.Plain.{root_power_mod}
use Rattle.symbol257.proofs.Working.{working}
use Rattle.symbol257.proofs.plain.root_power.Goals as goal

pub returns : goal.returns
returns c = c.power_at.ensures ∙ root_power_mod working c.args.e
