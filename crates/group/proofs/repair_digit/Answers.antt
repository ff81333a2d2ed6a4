use Rattle.symbol.proofs.Working.{working}
use Rattle.group.proofs.Repair.{digit_repaired}
use Rattle.group.proofs.repair_digit.Goals as goal

pub returns : goal.returns
returns c =
    let a = c.args in
    let r = c.runs_of-r.result in
    digit_repaired working a.l a.h a.lost.now a.host.now a.w a.first a.sums.now a.a r.start r.run r.count r.stride
    a.places.now c.fill_rests.new.rests c.solve.new.found c.runs_of-r.ensures c.requires.3 c.fill_rests.ensures c.solve.ensures
    a.spare.now c.put_rows.new.spare c.put_rows.ensures
