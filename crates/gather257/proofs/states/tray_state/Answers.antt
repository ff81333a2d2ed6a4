-- Made by tools/twin.py from crates/gather/proofs/states/tray_state/Answers.antt.
use Rattle.gather.proofs.Counted.{state_live, state_demonstration, state_other}
use Rattle.gather257.proofs.states.tray_state.Goals as goal

pub returns-then-ground-eq0 : goal.returns-then-ground-eq0
returns-then-ground-eq0 c = search state_live

pub returns-then-ground-eq10 : goal.returns-then-ground-eq10
returns-then-ground-eq10 c = search state_demonstration

pub returns : goal.returns
returns c = search state_other
