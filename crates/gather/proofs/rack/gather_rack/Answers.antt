use Rattle.image.specs.Image.{edition1}
use Rattle.gather.proofs.Racks.{rack_room, answer_kept, answer_done}
use Rattle.gather.proofs.rack.gather_rack.Goals as goal

pub returns-then-ground-ne0 : goal.returns-then-ground-ne0
returns-then-ground-ne0 c =
    let a = c.args in
    let d = answer_kept edition1 a.l a.volume a.rack.0 a.lost.now a.images.now a.out.now _ c.number-i.ensures _ c.refusal-ground.ensures
    c.if-ground-ne0.true in
    record { answer = d.0; buffer = d.1 }

pub take_rack-requires : goal.take_rack-requires
take_rack-requires c =
    let a = c.args in
    rack_room edition1 a.l a.volume c.number-i.result a.lost.now a.images.now a.out.now _ c.refusal-ground.ensures c.if-ground-ne0.false

pub returns : goal.returns
returns c =
    let a = c.args in
    let d = answer_done edition1 a.l a.volume a.rack.0 a.lost.now a.images.now a.out.now _ c.number-i.ensures _ c.refusal-ground.ensures
    c.if-ground-ne0.false _ c.take_rack.ensures in
    record { answer = d.0; buffer = d.1 }
