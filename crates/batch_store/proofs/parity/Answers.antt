use Rattle.std.proofs.Common.{◌≤◌, ◌∙◌, arith}
use Rattle.layout.specs.Layout.{tray_limit}
use Rattle.store.proofs.Trays.{zeros_long}
use Rattle.batch_store.proofs.parity.Goals as goal

pub parity_in-requires : goal.parity_in-requires
parity_in-requires c =
    let few : c.check_count-r.result ≤ tray_limit = let a = c.requires.adm in omega arith in
    (c.requires, zeros_long _ few ∙ c.check_count-r.ensures)
