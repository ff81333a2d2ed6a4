use Rattle.image.proofs.Bytes.{begins_told}
use Rattle.image.proofs.header.begins_with.Goals as goal

pub returns : goal.returns
returns c = begins_told _ _ c.requires c.starts_with.ensures.value
