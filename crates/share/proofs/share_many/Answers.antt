use Rattle.symbol.specs.Elem.{gf256}
use Rattle.share.proofs.Refusals.{many_refused, many_done}
use Rattle.share.proofs.share_many.Goals as goal

pub returns-then-e-ne0 : goal.returns-then-e-ne0
returns-then-e-ne0 c =
    let a = c.args in
    let d = many_refused gf256 a.l a.count a.host.0 a.helper.0 a.rack.now a.out.now c.if-e-ne0.true in
    record { answer = d.0; buffer = d.1 }

pub returns : goal.returns
returns c =
    let a = c.args in
    let f = c.make_shares.ensures in
    let d = many_done gf256 a.l a.count a.host.0 a.helper.0 a.rack.now a.out.now _ _ c.if-e-ne0.false f.answer f.buffer in
    record { answer = d.0; buffer = d.1 }
