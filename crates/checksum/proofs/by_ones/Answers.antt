use Rattle.checksum.proofs.Loops.{ones_more, ones_end}
use Rattle.checksum.proofs.by_ones.Goals as goal

pub loop-byte-preserved : goal.loop-byte-preserved
loop-byte-preserved c = search ones_more

pub returns : goal.returns
returns c = search ones_end
