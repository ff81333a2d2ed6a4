use Rattle.seen.proofs.Trays.{tray_listed, tray_told}
use Rattle.seen.proofs.tray_symbols.Goals as goal

pub returns-then-not-is_absent : goal.returns-then-not-is_absent
returns-then-not-is_absent g c = search tray_listed

pub returns : goal.returns
returns g c = search tray_told
