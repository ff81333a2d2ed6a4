-- Made by tools/twin.py from crates/multipliers/proofs/solve_sides/Answers.antt.
use Rattle.std.proofs.Common.{rules, ◌∙◌}
use Rattle.symbol257.proofs.Working.{working}
use Rattle.multipliers.proofs.Sides.{digits_first, multipliers_of, pointed_one, points_few, points_room, space_of, systems_one}
use Rattle.multipliers257.proofs.solve_sides.Goals as goal

pub unknown_points-requires : goal.unknown_points-requires
unknown_points-requires c = search pointed_one

pub power_sides-requires : goal.power_sides-requires
power_sides-requires c = (search rules, search space_of)

pub solve_first-requires : goal.solve_first-requires
solve_first-requires c =
    let a = c.args in
    let k = c.unknown_points.auto in
    let v = c.power_sides.auto in
    let e = c.unknown_count-n.ensures in (
      systems_one a.l a.h a.p a.helpers.now c.requires.0 a.found.now a.sides.now a.points.now a.coefs.now a.row.now a.cur.now c.requires.1
          _ _ _ e v.sides (v.row ∙ k.row),
      points_room a.l a.h a.p a.helpers.now c.requires.0 a.found.now a.sides.now a.points.now a.coefs.now a.row.now a.cur.now c.requires.1
          _ c.unknown_points.new.points e k.points,
      digits_first a.l a.h a.p a.helpers.now c.requires.0 _ _ e c.digit_count-s.ensures,
      points_few a.l a.h a.p a.helpers.now c.requires.0 _ e,
    )

pub returns : goal.returns
returns c =
    let a = c.args in
    multipliers_of working a.l a.h a.p a.helpers.now c.requires.0 _ _ _ _ _ c.unknown_count-n.ensures c.digit_count-s.ensures
    c.unknown_points.ensures
    c.power_sides.ensures c.solve_first.ensures
