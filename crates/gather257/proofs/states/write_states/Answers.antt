-- Made by tools/twin.py from crates/gather/proofs/states/write_states/Answers.antt.
use Rattle.lists.proofs.Loops.{upto_none}
use Rattle.gather.proofs.Counted.{state_place, states_more, states_all}
use Rattle.gather257.proofs.states.write_states.Goals as goal

pub loop-x-init : goal.loop-x-init
loop-x-init c = upto_none _ _

pub tray_state-requires : goal.tray_state-requires
tray_state-requires c = search state_place

pub loop-x-preserved : goal.loop-x-preserved
loop-x-preserved c = search states_more

pub returns : goal.returns
returns c = search states_all
