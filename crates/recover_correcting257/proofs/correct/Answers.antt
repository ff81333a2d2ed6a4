-- Made by tools/twin.py from crates/recover_correcting/proofs/correct/Answers.antt.
use Rattle.symbol257.proofs.Working.{working}
use Rattle.recover_correcting.proofs.Answers.{counts_told, replace_asks, answer_few, answer_none, answer_named}
use Rattle.recover_correcting257.proofs.correct.Goals as goal

pub tray_count-n-requires : goal.tray_count-n-requires
tray_count-n-requires c = (counts_told working _ _ _ c.requires.0 c.requires.1).0

pub left_over-left-requires : goal.left_over-left-requires
left_over-left-requires c = counts_told working _ _ _ c.requires.0 c.requires.1

pub returns-then-left-lt2 : goal.returns-then-left-lt2
returns-then-left-lt2 c = answer_few working _ _ _ c.requires.0 c.requires.1 _ c.left_over-left.ensures c.if-left-lt2.true

pub replace-x-requires : goal.replace-x-requires
replace-x-requires c = replace_asks working _ _ _ c.requires.0 c.requires.1 _ c.left_over-left.ensures c.if-left-lt2.false

pub returns-then-n-x : goal.returns-then-n-x
returns-then-n-x c = answer_none working _ _ _ c.requires.0 c.requires.1 _ _ _ _
    c.tray_count-n.ensures c.left_over-left.ensures c.if-left-lt2.false c.replace-x.ensures c.if-n-x.true

pub returns : goal.returns
returns c = answer_named working _ _ _ c.requires.0 c.requires.1 _ _ _ _
    c.tray_count-n.ensures c.left_over-left.ensures c.if-left-lt2.false c.replace-x.ensures c.if-n-x.false
