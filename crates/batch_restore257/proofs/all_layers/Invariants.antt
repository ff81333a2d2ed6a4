-- Made by tools/twin.py from crates/batch_restore/proofs/all_layers/Invariants.antt.
use Rattle.symbol257.specs.Elem.{gf257}
use Rattle.batch_restore.specs.Inner.{BatchTo}
use Rattle.batch_restore257.proofs.all_layers.Given as goal

abbrev pub invariant-loop-j : goal.invariant-loop-j
invariant-loop-j l = BatchTo gf257 l.l l.total l.m l.es l.initial.c l.j l.c
