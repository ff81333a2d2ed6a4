use Rattle.std.proofs.Common.{◌*◌}
use Rattle.symbol.specs.Elem.{gf256}
use Rattle.test_kept.proofs.Blocks.{FitTo}
use Rattle.test_kept.proofs.first.bad_block.Given as goal

abbrev pub invariant-loop-q : goal.invariant-loop-q
invariant-loop-q l = FitTo gf256 l.l l.w l.from l.es l.c (l.q * l.w)
