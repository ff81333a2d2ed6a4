use Rattle.std.proofs.Common.{arith}
use Rattle.columns.proofs.Dividing.{turned_start, divisors_of}
use Rattle.columns.proofs.divisors.Goals as goal

pub loop-k-init : goal.loop-k-init
loop-k-init g c = turned_start g.met.N.FieldNumber.working _ _ _ _ _ _ c.minus_one.ensures c.fill.ensures

pub returns : goal.returns
returns g c = divisors_of g.met.N.FieldNumber.working _ _ c.loop-k.k _ _ _ c.loop-k.invariant (omega arith) (omega arith) c.invert.ensures
