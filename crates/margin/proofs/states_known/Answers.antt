use Rattle.std.proofs.Common.{rules}
use Rattle.lists.proofs.Numbered.{below_told}
use Rattle.margin.proofs.states_known.Goals as goal

pub returns : goal.returns
returns c = below_told _ _ (search rules)
