use Rattle.std.proofs.Common.{rules}
use Rattle.symbol.specs.Arithmetic.{◌⊕◌}
use Rattle.symbol.proofs.Symbol.add.Goals as goal

pub returns : goal.returns
unfolding ◌⊕◌
returns c = search rules
