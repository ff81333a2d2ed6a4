use Rattle.std.proofs.Common.{rules}
use Rattle.symbol.proofs.Working.{working}
use Rattle.rack_checks.proofs.Numbers.{tray_there}
use Rattle.rack_checks.proofs.Places.{place_listed, place_one, place_times}
use Rattle.rack_checks.proofs.add_place.Goals as goal

pub returns-then-not-is_absent : goal.returns-then-not-is_absent
returns-then-not-is_absent c = search (place_listed working)

pub add-requires : goal.add-requires
add-requires c = (search rules, search tray_there)

pub returns-then-v-eq1 : goal.returns-then-v-eq1
returns-then-v-eq1 c = search (place_one working)

pub add_multiple-requires : goal.add_multiple-requires
add_multiple-requires c = (search rules, search tray_there)

pub returns : goal.returns
returns c = search (place_times working)
