use Rattle.image.specs.Image.{edition1}
use Rattle.gather.specs.Inner.{Lowest}
use Rattle.gather.proofs.rack.lowest_ground.Given as goal

abbrev pub invariant-loop-g : goal.invariant-loop-g
invariant-loop-g l = Lowest edition1 l.l l.volume l.rack l.lost l.images l.g l.lowest
