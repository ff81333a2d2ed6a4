-- Made by tools/twin.py from crates/correcting/proofs/plain_layout/Answers.antt.
use Rattle.std.proofs.Common.{refl}
use Rattle.correcting.specs.Inner.{plain_layout}
use Rattle.correcting257.proofs.plain_layout.Goals as goal

pub returns : goal.returns
returns c = unfold plain_layout in refl
