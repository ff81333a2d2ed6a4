use Rattle.symbol.specs.Arithmetic.{◌⊕◌}
use Rattle.checksum.specs.Checksum.{step, steps}
use Rattle.checksum.proofs.Entries.{tables_are}
use Rattle.checksum.proofs.table.table.Goals as goal

pub returns : goal.returns
unfolding step steps ◌⊕◌
returns c = tables_are _ tt tt
