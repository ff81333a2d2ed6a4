-- Made by tools/twin.py from crates/recover_correcting/proofs/find_wrong/Invariants.antt.
use Rattle.symbol257.specs.Elem.{gf257}
use Rattle.recover_correcting.specs.Inner.{Begun}
use Rattle.recover_correcting.proofs.Trials.{NoneBelow}
use Rattle.recover_correcting257.proofs.find_wrong.Given as goal

abbrev pub invariant-loop-x : goal.invariant-loop-x
invariant-loop-x l = Begun l.es l.list × NoneBelow gf257 l.l l.es l.c l.x
