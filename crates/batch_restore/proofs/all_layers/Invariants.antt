use Rattle.symbol.specs.Elem.{gf256}
use Rattle.batch_restore.specs.Inner.{BatchTo}
use Rattle.batch_restore.proofs.all_layers.Given as goal

abbrev pub invariant-loop-j : goal.invariant-loop-j
invariant-loop-j l = BatchTo gf256 l.l l.total l.m l.es l.initial.c l.j l.c
