use Rattle.symbol.specs.Elem.{gf256}
use Rattle.batch_kernel.proofs.Spots.{tabled_more}
use Rattle.batch_kernel.proofs.bytes.table.Goals as goal

pub loop-j-preserved : goal.loop-j-preserved
loop-j-preserved c = search (tabled_more gf256)
