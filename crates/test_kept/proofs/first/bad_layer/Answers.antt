use Rattle.test_kept.proofs.Blocks.{first_layer}
use Rattle.test_kept.proofs.first.bad_layer.Goals as goal

pub returns : goal.returns
returns c = search first_layer
