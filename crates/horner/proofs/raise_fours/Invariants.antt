use Rattle.std.proofs.Common.{◌*◌}
use Rattle.symbol.specs.Elem.{gf256}
use Rattle.horner.specs.Inner.{Scaled}
use Rattle.horner.proofs.raise_fours.Given as goal

abbrev pub invariant-loop-n : goal.invariant-loop-n
invariant-loop-n l = Scaled gf256 (4 * l._n) l.initial.out l.out l.to l.len
