use Rattle.std.proofs.Common.{arith}
use Rattle.symbol.proofs.Working.{working}
use Rattle.layout.proofs.Facts.{bounds}
use Rattle.share.proofs.Parts.{sums_only, zeros_held}
use Rattle.share.proofs.add_later.Goals as goal

pub add_sums-requires : goal.add_sums-requires
add_sums-requires c =
    let p = c.requires.0 in
    let b = bounds _ p.adm.cabinet in (
      record {
        adm = p.adm;
        long = p.long;
        room = b.groups_high;
        host_in = p.host_in;
        some_trays = omega arith;
        at_once = omega arith;
        given = p.given;
        held = zeros_held working _ 4096 b.groups_high;
      },
      c.requires.1,
    )

pub add_weighted-requires : goal.add_weighted-requires
add_weighted-requires c =
    let p = c.requires.0 in
    record { adm = p.adm.cabinet; long = rw c.add_sums.ensures.same (bounds _ p.adm.cabinet).groups_high; room = p.room; some = p.some; few = p.few }

pub returns : goal.returns
returns c =
    let a = c.args in
    c.add_weighted.ensures a.h _
    (sums_only working a.l a.h 4096 a.symbols.now a.at _ (bounds _ c.requires.0.adm.cabinet).groups_high c.add_sums.ensures)
