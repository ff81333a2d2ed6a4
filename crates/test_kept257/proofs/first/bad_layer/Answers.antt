-- Made by tools/twin.py from crates/test_kept/proofs/first/bad_layer/Answers.antt.
use Rattle.test_kept.proofs.Blocks.{first_layer}
use Rattle.test_kept257.proofs.first.bad_layer.Goals as goal

pub returns : goal.returns
returns c = search first_layer
