use Rattle.symbol.proofs.Working.{working}
use Rattle.rack_checks.proofs.Places.{places_none, places_more}
use Rattle.rack_checks.proofs.sum_places.Goals as goal

pub loop-g-init : goal.loop-g-init
loop-g-init c = search (places_none working)

pub loop-g-preserved : goal.loop-g-preserved
loop-g-preserved c = search (places_more working)
