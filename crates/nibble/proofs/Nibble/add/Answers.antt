use Rattle.std.proofs.Common.{rules}
use Rattle.symbol.specs.Arithmetic.{◌⊕◌}
use Rattle.nibble.proofs.Nibble.add.Goals as goal

pub returns : goal.returns
unfolding ◌⊕◌
returns c = search rules
