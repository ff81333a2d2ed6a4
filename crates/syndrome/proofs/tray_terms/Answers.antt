use Rattle.std.proofs.Common.{rules}
use Rattle.syndrome.proofs.Sums.{tray_of, tray_first, tray_in}
use Rattle.syndrome.proofs.tray_terms.Goals as goal

pub copy-requires : goal.copy-requires
copy-requires g c = (search rules, search tray_in)

pub returns-then-r-lt2 : goal.returns-then-r-lt2
returns-then-r-lt2 g c = search (tray_first g.met.N.FieldNumber.working)

pub returns : goal.returns
returns g c = search (tray_of g.met.N.FieldNumber.working)
