-- Made by tools/twin.py from crates/sums/proofs/solve_columns/Answers.antt.
use Rattle.symbol257.proofs.Working.{working}
use Rattle.sums.proofs.Points.{pointed_of}
use Rattle.sums.proofs.Rows.{first_under, found_of, points_few, points_room, systems_of}
use Rattle.sums257.proofs.solve_columns.Goals as goal

pub unknown_points-requires : goal.unknown_points-requires
unknown_points-requires c = search (pointed_of working)

pub solve_first-requires : goal.solve_first-requires
solve_first-requires c =
    (search (systems_of working), search (points_room working), search (first_under working), search (points_few working))

pub returns : goal.returns
returns c =
    let a = c.args in
    found_of working a.l a.h a.w a.first a.helpers.now a.v a.run c.requires.2 _ _ a.sides.now _ _ c.requires.0.adm
    c.unknown_count-n.ensures c.digit_count-s.ensures c.unknown_points.ensures c.solve_first.ensures
