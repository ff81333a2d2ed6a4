use Rattle.std.proofs.Common.{arith}
use Rattle.image.specs.Image.{edition1}
use Rattle.gather.proofs.Whole.{gathered_none, place_of, note_in, gathered_more, gathered_end}
use Rattle.gather.proofs.gather_all.Goals as goal

pub loop-x-init : goal.loop-x-init
loop-x-init c = gathered_none _ _ _ _ _ _

pub take_tray-there-requires : goal.take_tray-there-requires
take_tray-there-requires c =
    let a = c.args in
    place_of edition1 a.l a.volume a.images.now a.codeword.now a.missing.now c.loop-x.x _ _ _ c.requires c.tray_count-n.ensures c.layer_count-total.ensures
    (omega arith) c.loop-x.invariant.long

pub note-count-requires : goal.note-count-requires
note-count-requires c =
    let a = c.args in
    note_in edition1 a.l a.volume a.images.now a.codeword.now a.missing.now c.loop-x.x _ _ _ _ c.requires c.tray_count-n.ensures (omega arith)
    c.loop-x.invariant

pub loop-x-preserved : goal.loop-x-preserved
loop-x-preserved c =
    let a = c.args in
    let t = c.take_tray-there.ensures in
    let n = c.note-count.ensures in
    gathered_more edition1 a.l a.volume a.images.now a.codeword.now a.missing.now c.loop-x.x c.layer_count-total.result c.loop-x.codeword c.loop-x.missing
    _ _ c.loop-x.count _ c.take_tray-there.result c.requires (omega (arith, c.tray_count-n.ensures)) c.layer_count-total.ensures c.loop-x.invariant
    t.answer t.run n.answer n.list

pub returns : goal.returns
returns c =
    let a = c.args in
    gathered_end edition1 a.l a.volume a.images.now a.codeword.now a.missing.now c.loop-x.x _ _ _ _ c.tray_count-n.ensures (omega arith) (omega arith)
    c.loop-x.invariant
