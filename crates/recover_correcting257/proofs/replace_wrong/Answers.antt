-- Made by tools/twin.py from crates/recover_correcting/proofs/replace_wrong/Answers.antt.
use Rattle.symbol257.specs.Elem.{gf257}
use Rattle.recover_correcting.proofs.Trials.{replaced_none, replace_told, replaced_one}
use Rattle.recover_correcting257.proofs.replace_wrong.Goals as goal

pub returns-then-n-x : goal.returns-then-n-x
returns-then-n-x c = replaced_none gf257 _ _ _ _ _ _ c.tray_count-n.ensures c.find_wrong-x.ensures c.if-n-x.true

pub restore-requires : goal.restore-requires
restore-requires c =
    replace_told gf257 _ _ _ _ _ _ c.tray_count-n.ensures c.find_wrong-x.ensures c.if-n-x.false _ c.requires.0

pub returns : goal.returns
returns c =
    replaced_one gf257 _ _ _ _ _ _ c.tray_count-n.ensures c.find_wrong-x.ensures c.if-n-x.false _ c.restore.ensures
