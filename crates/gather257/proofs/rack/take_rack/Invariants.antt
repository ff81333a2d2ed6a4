-- Made by tools/twin.py from crates/gather/proofs/rack/take_rack/Invariants.antt.
use Rattle.image.specs.Image.{edition2}
use Rattle.gather.specs.Inner.{RackTaken}
use Rattle.gather257.proofs.rack.take_rack.Given as goal

abbrev pub invariant-loop-g : goal.invariant-loop-g
invariant-loop-g l = RackTaken edition2 l.l l.rack l.lost l.images l.initial.out l.out l.g
