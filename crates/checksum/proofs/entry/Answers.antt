use Rattle.checksum.proofs.Nibbles.{entry_is}
use Rattle.checksum.proofs.entry.Goals as goal

pub returns : goal.returns
returns c = search entry_is
