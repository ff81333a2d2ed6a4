use Rattle.box_recover.proofs.Steps.{skipped_not, skipped_on}
use Rattle.box_recover.proofs.skipped.Goals as goal

pub returns-then-x-e : goal.returns-then-x-e
returns-then-x-e c = search skipped_not

pub returns : goal.returns
returns c = search skipped_on
