use Rattle.checksum.proofs.Fed.{one_is}
use Rattle.checksum.proofs.one.Goals as goal

pub returns : goal.returns
returns c = search one_is
