use Rattle.symbol.proofs.Working.{working}
use Rattle.solving.proofs.Runs.{columns_of}
use Rattle.solving.proofs.Solve.{systems_of, points_room, points_few, found_of}
use Rattle.solving.proofs.solve_block.Goals as goal

pub listed_points-requires : goal.listed_points-requires
listed_points-requires c =
    let a = c.args in let y = c.cycle_of-p in let r = y.result in
    columns_of a.l a.w a.first a.es.now a.e r.run r.columns r.turns a.sums.now a.found.now a.points.now a.coefs.now a.row.now
    c.requires.0 c.requires.3 c.requires.2 y.ensures c.requires.4

pub solve-requires : goal.solve-requires
solve-requires c =
    let a = c.args in
    let y = c.cycle_of-p in
    let r = y.result in
    let p = c.listed_points in (
      systems_of a.l a.w a.es.now a.e r.run r.columns r.turns a.sums.now a.found.now a.points.now a.coefs.now a.row.now
          p.new.row c.requires.0.adm c.requires.3 c.requires.2 y.ensures c.requires.4 p.auto.row,
      points_room a.l a.w a.es.now a.e r.run r.columns r.turns a.sums.now a.found.now a.points.now p.new.points a.coefs.now a.row.now
          c.requires.0.adm c.requires.3 c.requires.2 y.ensures c.requires.4 p.auto.points,
      points_few a.l a.w a.es.now a.e r.run r.columns r.turns a.sums.now
          a.found.now a.points.now a.coefs.now a.row.now c.requires.0.adm c.requires.3 c.requires.2 y.ensures c.requires.4,
    )

pub returns : goal.returns
returns c =
    let a = c.args in let y = c.cycle_of-p in let r = y.result in let p = c.listed_points in
    found_of working a.l a.w a.first a.es.now a.e r.run r.columns r.turns a.sums.now p.new.points c.solve.new.found
    c.requires.0 c.requires.2 y.ensures p.ensures c.solve.ensures
