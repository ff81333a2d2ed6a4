use Rattle.std.proofs.Common.{rules}
use Rattle.symbol.proofs.Working.{working}
use Rattle.rack_solving.proofs.Points.{rack_there, sampled_in, racks_more}
use Rattle.rack_solving.proofs.rack_points.Goals as goal

pub sample-requires : goal.sample-requires
sample-requires c =
    let a = c.args in (
      search rack_there,
      sampled_in a.l a.w a.first a.es.now a.v a.run a.points.now a.row.now c.power_row.new.row c.requires.0 (search rules),
      search rules,
    )

pub loop-i-preserved : goal.loop-i-preserved
loop-i-preserved c =
    let a = c.args in
    racks_more working a.l a.w a.first a.es.now a.v a.run c.loop-i.i c.power_row.new.row c.loop-i.points
    c.sample.new.out c.requires.0.width c.requires.0.run_low c.loop-i.invariant c.power_row.ensures c.sample.ensures
