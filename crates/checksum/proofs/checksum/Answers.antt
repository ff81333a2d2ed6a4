use Rattle.checksum.proofs.Parts.{checksum_is}
use Rattle.checksum.proofs.checksum.Goals as goal

pub returns : goal.returns
returns c = search checksum_is
