use Rattle.std.proofs.Common.{rules}
use Rattle.recover_correcting.proofs.Trials.{none_more, found_one, found_none}
use Rattle.recover_correcting.proofs.find_wrong.Goals as goal

pub returns-then-fits_without : goal.returns-then-fits_without
returns-then-fits_without c = search (rules, found_one)

pub loop-x-preserved : goal.loop-x-preserved
loop-x-preserved c = search (rules, none_more)

pub returns : goal.returns
returns c = search (rules, found_none)
