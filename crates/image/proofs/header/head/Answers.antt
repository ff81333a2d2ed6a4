use Rattle.image.proofs.Bytes.{header_is}
use Rattle.image.proofs.header.head.Goals as goal

pub returns : goal.returns
returns c = search header_is
