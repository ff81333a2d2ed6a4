use Rattle.planes.proofs.Planes.{double_more}
use Rattle.planes.proofs.bytes.double.Goals as goal

pub loop-j-preserved : goal.loop-j-preserved
loop-j-preserved c = search double_more
