use Rattle.std.proofs.Common.{◌∙◌, ◌*◌, ◌/◌, ap, sym}
use Rattle.algebra.specs.Plain.{root_power}
use Rattle.codeword.proofs.Points.{place_power_is}
use Rattle.points.proofs.place_power.Goals as goal

pub returns : goal.returns
returns g c =
    let a = c.args in
    let w = g.met.N.FieldNumber in
    place_power_is w.working a.l a.g a.m _
    (c.root_power.ensures ∙ ap (λ n. root_power g.N.FieldNumber.field (n / a.l.size * a.g * a.m)) (c.ORDER.ensures ∙ sym w.order_is))
