use Rattle.std.proofs.Common.{refl, ◌∙◌, rules}
use Rattle.symbol.proofs.Working.{working}
use Rattle.solving.proofs.Runs.{columns_of}
use Rattle.rack_solving.proofs.Room.{rooms_of, row_left}
use Rattle.rack_solving.proofs.Symbols.{found_racks}
use Rattle.rack_solving.proofs.Wide.{weighted_solved}
use Rattle.rack_solving.proofs.solve_rows.Goals as goal

pub rack_points-requires : goal.rack_points-requires
rack_points-requires c = (search columns_of, search rules, search rules)

pub weighted_sums-requires : goal.weighted_sums-requires
weighted_sums-requires c =
    let a = c.args in
    let r = c.cycle_of-p.result in
    (rooms_of a.l a.w a.first a.es.now a.n a.sums.now a.found.now a.points.now a.coefs.now a.row.now
    c.requires.0 c.requires.3 c.requires.6 c.requires.4).wide_of a.e r.run r.columns r.turns a.ys.now c.rack_points.new.points a.wide.now
    c.requires.2 c.cycle_of-p.ensures c.requires.7 c.requires.8 c.rack_points.auto.points

pub racks_symbols-requires : goal.racks_symbols-requires
racks_symbols-requires c =
    let a = c.args in
    let m = rooms_of a.l a.w a.first a.es.now a.n a.sums.now a.found.now a.points.now a.coefs.now a.row.now
    c.requires.0 c.requires.3 c.requires.6 c.requires.4 in (
      c.requires.5,
      m.some_layers,
      m.symbols_in a.found.now refl,
      m.sums_in a.ys.now c.lower_rows.new.ys c.requires.7 (c.lower_rows.auto.ys ∙ c.weighted_sums.auto.ys),
      row_left a.w a.row.now c.lower_rows.new.row c.requires.4.row_long (c.lower_rows.auto.row ∙ c.rack_points.auto.row),
    )

pub returns : goal.returns
returns c =
    let a = c.args in
    let r = c.cycle_of-p.result in
    found_racks a.l a.w a.first a.es.now a.n a.sums.now c.weighted_sums.new.ys c.lower_rows.new.ys c.racks_symbols.new.found
    c.requires.0.adm c.requires.3 c.requires.6 c.requires.5
    (weighted_solved working a.l a.w a.first a.es.now a.n a.e r.run r.columns r.turns c.requires.0 c.requires.2 c.cycle_of-p.ensures c.requires.6
    c.rack_points.new.points c.rack_points.ensures a.sums.now c.weighted_sums.new.ys c.weighted_sums.ensures)
    c.lower_rows.ensures c.racks_symbols.ensures.0 c.racks_symbols.ensures.1
