use Rattle.batch_kernel.specs.Inner.{PickedFour}
use Rattle.batch_kernel.proofs.bytes.pick_four.Given as goal

abbrev pub invariant-loop-k : goal.invariant-loop-k
invariant-loop-k l = PickedFour l.g l.at l.wide l.to l.k l.initial.picks l.picks
