use Rattle.std.proofs.Common.{below_more}
use Rattle.lists.proofs.Bools.{told_true}
use Rattle.seen.proofs.Trays.{places_told, tray_sound, trays_false, trays_true}
use Rattle.seen.proofs.host_symbols.Goals as goal

pub tray_symbols-requires : goal.tray_symbols-requires
tray_symbols-requires g c = search places_told

pub returns-then-not-tray_symbols : goal.returns-then-not-tray_symbols
returns-then-not-tray_symbols g c = search (trays_false, tray_sound)

pub loop-g-preserved : goal.loop-g-preserved
loop-g-preserved g c = below_more _ _ c.loop-g.invariant (search (told_true, tray_sound))

pub returns : goal.returns
returns g c = search trays_true
