use Rattle.planes.proofs.Planes.{upper_none, upper_more, summed_end}
use Rattle.planes.proofs.bytes.U8SumRows.combine.Goals as goal

pub loop-k-init : goal.loop-k-init
loop-k-init c = search upper_none

pub loop-k-preserved : goal.loop-k-preserved
loop-k-preserved c = search upper_more

pub returns : goal.returns
returns c = search summed_end
