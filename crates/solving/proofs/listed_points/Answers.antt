use Rattle.symbol.proofs.Working.{working}
use Rattle.solving.proofs.Runs.{listed_more}
use Rattle.solving.proofs.listed_points.Goals as goal

pub loop-k-preserved : goal.loop-k-preserved
loop-k-preserved c =
    let a = c.args in
    listed_more working a.l a.w a.first a.es.now a.v a.run _ c.tray_points.new.row c.loop-k.points
    c.sample.new.out c.requires.width c.requires.run_low c.loop-k.invariant c.tray_points.ensures c.sample.ensures
