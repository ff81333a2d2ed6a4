use Rattle.symbol.proofs.Working.{root_power_is}
use Rattle.symbol.proofs.plain.root_power.Goals as goal

pub returns : goal.returns
returns c = search root_power_is
