-- Made by tools/twin.py from crates/gather/proofs/gather_all/Invariants.antt.
use Rattle.image.specs.Image.{edition2}
use Rattle.gather.proofs.Whole.{GatheredTo}
use Rattle.gather257.proofs.gather_all.Given as goal

abbrev pub invariant-loop-x : goal.invariant-loop-x
invariant-loop-x l =
    GatheredTo edition2 l.l l.volume l.images l.initial.codeword l.initial.missing l.x l.codeword l.missing l.count
