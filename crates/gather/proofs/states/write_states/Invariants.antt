use Rattle.image.specs.Image.{edition1}
use Rattle.lists.proofs.Loops.{Upto}
use Rattle.gather.specs.Gathering.{tray_state}
use Rattle.gather.proofs.states.write_states.Given as goal

abbrev pub invariant-loop-x : goal.invariant-loop-x
invariant-loop-x l = Upto (tray_state edition1 l.l l.volume l.images) l.initial.states l.states l.x
