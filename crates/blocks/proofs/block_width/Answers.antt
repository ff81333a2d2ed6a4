use Rattle.blocks.proofs.Digits.{width_is}
use Rattle.blocks.proofs.block_width.Goals as goal

pub returns : goal.returns
returns c = search width_is
