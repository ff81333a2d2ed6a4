use Rattle.symbol.proofs.Working.{working}
use Rattle.restore.proofs.Fits.{terms_none, terms_more}
use Rattle.restore.proofs.found_terms.Goals as goal

pub loop-k-init : goal.loop-k-init
loop-k-init c = terms_none working _ _ _ _ _ _ _

pub loop-k-preserved : goal.loop-k-preserved
loop-k-preserved c =
    let a = c.args in
    terms_more working a.l a.w a.first a.r a.es.now a.found.now _ c.loop-k.cur c.copy.new.out
    c.tray_points.new.row a.sums.now c.loop-k.sums c.add_terms.new.sums c.loop-k.invariant c.copy.ensures c.tray_points.ensures c.add_terms.ensures
