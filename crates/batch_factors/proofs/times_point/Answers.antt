use Rattle.symbol.specs.Elem.{gf256}
use Rattle.batch_factors.proofs.Steps.{timed_of}
use Rattle.batch_factors.proofs.times_point.Goals as goal

pub returns : goal.returns
returns c = search (timed_of gf256)
