use Rattle.symbol.specs.Elem.{gf256}
use Rattle.recover_correcting.specs.Inner.{Begun}
use Rattle.recover_correcting.proofs.Trials.{NoneBelow}
use Rattle.recover_correcting.proofs.find_wrong.Given as goal

abbrev pub invariant-loop-x : goal.invariant-loop-x
invariant-loop-x l = Begun l.es l.list × NoneBelow gf256 l.l l.es l.c l.x
