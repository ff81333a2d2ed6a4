use Rattle.std.proofs.Common.{arith}
use Rattle.checksum.proofs.Loops.{eights_more}
use Rattle.checksum.proofs.by_eights.Goals as goal

pub loop-i-preserved : goal.loop-i-preserved
loop-i-preserved c = record { in_range = omega arith; rest = search eights_more }
