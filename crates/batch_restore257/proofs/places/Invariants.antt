-- Made by tools/twin.py from crates/batch_restore/proofs/places/Invariants.antt.
use Rattle.batch_restore.specs.Inner.{Placed}
use Rattle.batch_restore257.proofs.places.Given as goal

abbrev pub invariant-loop-t : goal.invariant-loop-t
invariant-loop-t l = Placed l.ks l.gap l.first l.t l.initial.at l.at
