use Rattle.box_recover.proofs.Steps.{factor_other}
use Rattle.box_recover.proofs.lagrange.factor.Goals as goal

pub returns : goal.returns
returns c = search factor_other
