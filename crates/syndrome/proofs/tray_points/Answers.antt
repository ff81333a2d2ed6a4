use Rattle.syndrome.proofs.Points.{root_number, points_of_lem}
use Rattle.syndrome.proofs.tray_points.Goals as goal

pub returns : goal.returns
returns g c =
    let w = g.met.N.FieldNumber.working in
    let a = c.args in
    points_of_lem w a.l a.w a.first a.x _ _ _ (root_number w _ c.root_power.ensures) c.point_power-p.ensures c.digit_powers.ensures
