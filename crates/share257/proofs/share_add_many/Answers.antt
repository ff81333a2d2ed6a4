-- Made by tools/twin.py from crates/share/proofs/share_add_many/Answers.antt.
use Rattle.symbol257.specs.Elem.{gf257}
use Rattle.share.proofs.Refusals.{add_many_refused, add_many_done}
use Rattle.share257.proofs.share_add_many.Goals as goal

pub returns-then-e-ne0 : goal.returns-then-e-ne0
returns-then-e-ne0 c =
    let a = c.args in
    let d = add_many_refused gf257 a.l a.count a.host.0 a.tray.0 a.symbols.now a.shares.now c.if-e-ne0.true in
    record { answer = d.0; buffer = d.1 }

pub returns : goal.returns
returns c =
    let a = c.args in
    let f = c.feed_tray.ensures in
    let d = add_many_done gf257 a.l a.count a.host.0 a.tray.0 a.symbols.now a.shares.now _ _ c.if-e-ne0.false f.answer f.buffer in
    record { answer = d.0; buffer = d.1 }
