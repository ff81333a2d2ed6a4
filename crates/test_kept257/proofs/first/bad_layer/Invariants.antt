-- Made by tools/twin.py from crates/test_kept/proofs/first/bad_layer/Invariants.antt.
use Rattle.symbol257.specs.Elem.{gf257}
use Rattle.test_kept.specs.Inner.{BadBlock}
use Rattle.test_kept257.proofs.first.bad_layer.Given as goal

abbrev pub invariant-loop-e : goal.invariant-loop-e
invariant-loop-e l = BadBlock gf257 l.l l.e l.es l.c l.first
