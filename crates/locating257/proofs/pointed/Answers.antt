-- Made by tools/twin.py from crates/locating/proofs/pointed/Answers.antt.
use Rattle.symbol257.proofs.Working.{working}
use Rattle.locating.proofs.Located.{pointed_clean, pointed_dirty}
use Rattle.locating257.proofs.pointed.Goals as goal

pub returns-then-all_clear : goal.returns-then-all_clear
returns-then-all_clear c =
    let a = c.args in
    pointed_clean working a.l a.h a.helpers.now a.zeroth.now a.first.now c.requires.0 _ c.group_count.ensures c.all_clear.result c.all_clear.ensures
    c.if-all_clear.true

pub returns : goal.returns
returns c =
    let a = c.args in
    pointed_dirty working a.l a.h a.helpers.now a.zeroth.now a.first.now c.requires.0 _ c.group_count.ensures c.all_clear.result c.all_clear.ensures
    c.if-all_clear.false _ c.first_located.ensures
