use Rattle.symbol.proofs.Working.{working}
use Rattle.group.proofs.Rests.{places_end, places_more, places_none}
use Rattle.group.proofs.fill_places.Goals as goal

pub loop-i-init : goal.loop-i-init
loop-i-init c = search (places_none working)

pub loop-i-preserved : goal.loop-i-preserved
loop-i-preserved c = places_more working _ _ _ _ _ _ c.loop-i.invariant c.fill.ensures c.place_power.ensures

pub returns : goal.returns
returns c = search (places_end working)
