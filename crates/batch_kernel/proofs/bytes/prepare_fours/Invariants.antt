use Rattle.batch_kernel.specs.Inner.{Prepared}
use Rattle.batch_kernel.proofs.bytes.prepare_fours.Given as goal

abbrev pub invariant-loop-q : goal.invariant-loop-q
invariant-loop-q l = Prepared l.g l.wide l.q l.initial.picks l.picks
