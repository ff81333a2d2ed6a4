-- Made by tools/twin.py from crates/gather/proofs/rack/lowest_ground/Invariants.antt.
use Rattle.image.specs.Image.{edition2}
use Rattle.gather.specs.Inner.{Lowest}
use Rattle.gather257.proofs.rack.lowest_ground.Given as goal

abbrev pub invariant-loop-g : goal.invariant-loop-g
invariant-loop-g l = Lowest edition2 l.l l.volume l.rack l.lost l.images l.g l.lowest
