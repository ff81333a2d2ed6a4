use Rattle.symbol.specs.Elem.{gf256}
use Rattle.recover_correcting.proofs.Trials.{replaced_none, replace_told, replaced_one}
use Rattle.recover_correcting.proofs.replace_wrong.Goals as goal

pub returns-then-n-x : goal.returns-then-n-x
returns-then-n-x c = replaced_none gf256 _ _ _ _ _ _ c.tray_count-n.ensures c.find_wrong-x.ensures c.if-n-x.true

pub restore-requires : goal.restore-requires
restore-requires c =
    replace_told gf256 _ _ _ _ _ _ c.tray_count-n.ensures c.find_wrong-x.ensures c.if-n-x.false _ c.requires.0

pub returns : goal.returns
returns c =
    replaced_one gf256 _ _ _ _ _ _ c.tray_count-n.ensures c.find_wrong-x.ensures c.if-n-x.false _ c.restore.ensures
