use Rattle.std.proofs.Common.{rules}
use Rattle.lists.proofs.Numbered.{rising_told}
use Rattle.lists.proofs.strictly_rising.Goals as goal

pub returns : goal.returns
returns c = rising_told _ (search rules)
