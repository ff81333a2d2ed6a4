use Rattle.std.proofs.Common.{rules}
use Rattle.lists.proofs.Numbered.{below_told}
use Rattle.lists.proofs.all_below.Goals as goal

pub returns : goal.returns
returns c = below_told _ _ (search rules)
