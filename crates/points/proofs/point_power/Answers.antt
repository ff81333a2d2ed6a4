use Rattle.std.proofs.Common.{◌∙◌, ap, sym}
use Rattle.codeword.specs.Inner.{exponent_at}
use Rattle.codeword.proofs.Points.{point_power_is}
use Rattle.points.proofs.point_power.Goals as goal

pub returns : goal.returns
returns g c =
    let a = c.args in
    let w = g.met.N.FieldNumber in
    point_power_is w.working a.l a.x a.j a.t c.exponent.result _
    (c.exponent.ensures.0 ∙ ap (λ n. exponent_at n a.l a.x a.j) (c.ORDER.ensures ∙ sym w.order_is)) c.root_power.ensures
