use Rattle.checksum.proofs.Eights.{eight_is}
use Rattle.checksum.proofs.eight.Goals as goal

pub returns : goal.returns
returns c = search eight_is
