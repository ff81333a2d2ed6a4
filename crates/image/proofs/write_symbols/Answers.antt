use Rattle.image.proofs.First.{copy_is}
use Rattle.image.proofs.write_symbols.Goals as goal

pub returns : goal.returns
returns c = search copy_is
