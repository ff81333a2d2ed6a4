-- Made by tools/twin.py from crates/gather/proofs/tray/take_tray/Answers.antt.
use Rattle.image.specs.Image.{edition2}
use Rattle.gather.proofs.Taking.{absent_taken, present_taken}
use Rattle.gather257.proofs.tray.take_tray.Goals as goal

pub returns-then-tray_ground-ne0 : goal.returns-then-tray_ground-ne0
returns-then-tray_ground-ne0 c =
    let a = c.args in
    let d = absent_taken edition2 a.l a.volume a.images.now a.x a.out.now _ _ a.total _ c.tray_ground.ensures c.if-tray_ground-ne0.true c.fill.ensures in
    record { answer = d.0; run = d.1 }

pub returns : goal.returns
returns c =
    let a = c.args in
    let d = present_taken edition2 a.l a.volume a.images.now a.x a.out.now _ _ a.total _ c.tray_ground.ensures c.if-tray_ground-ne0.false
    c.copy_tray.ensures in
    record { answer = d.0; run = d.1 }
