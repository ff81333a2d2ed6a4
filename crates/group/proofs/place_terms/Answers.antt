use Rattle.symbol.proofs.Working.{working}
use Rattle.group.proofs.Rests.{terms_of}
use Rattle.group.proofs.Spots.{tray_fits_2}
use Rattle.group.proofs.place_terms.Goals as goal

pub overflow_add-start : goal.overflow_add-start
overflow_add-start c = search tray_fits_2

pub returns : goal.returns
returns c =
    let a = c.args in
    terms_of working a.l a.w a.e a.r.start a.r.run a.r.count a.r.stride c.layer_count-total.result a.host.now a.g
    c.place_power-p.result a.cur.now c.gather.new.out a.row.now c.fill.new.out a.rests.now c.add_terms.new.sums
    c.layer_count-total.ensures c.place_power-p.ensures c.requires.1 c.gather.ensures c.fill.ensures c.add_terms.ensures
