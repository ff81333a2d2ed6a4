use Rattle.std.proofs.Common.{◌≡◌}
use Rattle.symbol.specs.Elem.{gf256}
use Rattle.horner.specs.Inner.{scaled}
use Rattle.horner.proofs.raised.Given as goal

abbrev pub invariant-loop-k : goal.invariant-loop-k
invariant-loop-k l = l.v ≡ scaled gf256 l._k l.x
