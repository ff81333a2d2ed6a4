use Rattle.image.specs.Image.{edition1}
use Rattle.gather.specs.Inner.{RackTaken}
use Rattle.gather.proofs.rack.take_rack.Given as goal

abbrev pub invariant-loop-g : goal.invariant-loop-g
invariant-loop-g l = RackTaken edition1 l.l l.rack l.lost l.images l.initial.out l.out l.g
