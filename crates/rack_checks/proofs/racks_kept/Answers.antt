use Rattle.rack_checks.proofs.Numbers.{racks_below, racks_listed}
use Rattle.rack_checks.proofs.racks_kept.Goals as goal

pub returns : goal.returns
returns c = (search racks_below, search racks_listed)
