-- Made by tools/twin.py from crates/gather/proofs/states/write_states/Invariants.antt.
use Rattle.image.specs.Image.{edition2}
use Rattle.lists.proofs.Loops.{Upto}
use Rattle.gather.specs.Gathering.{tray_state}
use Rattle.gather257.proofs.states.write_states.Given as goal

abbrev pub invariant-loop-x : goal.invariant-loop-x
invariant-loop-x l = Upto (tray_state edition2 l.l l.volume l.images) l.initial.states l.states l.x
