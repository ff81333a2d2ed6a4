-- Made by tools/twin.py from crates/gather/proofs/states/states/Answers.antt.
use Rattle.gather.proofs.Counted.{states_kept, states_told, states_given, states_done}
use Rattle.gather257.proofs.states.states.Goals as goal

pub returns-then-ground-ne0-clause-buffer : goal.returns-then-ground-ne0-clause-buffer
returns-then-ground-ne0-clause-buffer c = search states_kept

pub write_states-requires : goal.write_states-requires
write_states-requires c = search states_told

pub returns-clause-answer : goal.returns-clause-answer
returns-clause-answer c = search states_given

pub returns-clause-buffer : goal.returns-clause-buffer
returns-clause-buffer c = search states_done
