use Rattle.std.proofs.Common.{rules}
use Rattle.image.specs.Image.{same_layout}
use Rattle.image.proofs.grounds.same_layout.Goals as goal

pub returns : goal.returns
unfolding same_layout
returns c = search rules
