use Rattle.symbol.specs.Elem.{gf256}
use Rattle.sums.specs.Inner.{SidesTo}
use Rattle.sums.proofs.block_sides.Given as goal

abbrev pub invariant-loop-k : goal.invariant-loop-k
invariant-loop-k l = SidesTo gf256 l.l l.h l.w l.first l.helpers l.shares l.e l.m l.k l.sides
