use Rattle.symbol.specs.Elem.{gf256}
use Rattle.test_kept.specs.Inner.{BadBlock}
use Rattle.test_kept.proofs.first.bad_layer.Given as goal

abbrev pub invariant-loop-e : goal.invariant-loop-e
invariant-loop-e l = BadBlock gf256 l.l l.e l.es l.c l.first
