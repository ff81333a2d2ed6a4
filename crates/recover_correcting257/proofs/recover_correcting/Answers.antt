-- Made by tools/twin.py from crates/recover_correcting/proofs/recover_correcting/Answers.antt.
use Rattle.symbol257.proofs.Working.{working}
use Rattle.recover_correcting.proofs.Answers.{correct_told, correction_answer, done_told, answer_refused, answer_sound}
use Rattle.recover_correcting257.proofs.recover_correcting.Goals as goal

pub correct-requires : goal.correct-requires
correct-requires c = correct_told working _ _ _ _ _ c.recover-number.ensures c.if-number-eq8.true

pub returns-then-number-eq8 : goal.returns-then-number-eq8
returns-then-number-eq8 c =
    correction_answer working _ _ _ _ _ c.recover-number.ensures c.correct.new.c c.correct.result c.if-number-eq8.true c.correct.ensures

pub returns-then-number-ne0 : goal.returns-then-number-ne0
returns-then-number-ne0 c = answer_refused working _ _ _ _ _ c.recover-number.ensures c.if-number-eq8.false c.if-number-ne0.true

pub tray_count-requires : goal.tray_count-requires
tray_count-requires c = (done_told working _ _ _ _ _ c.recover-number.ensures c.if-number-eq8.false c.if-number-ne0.false).0

pub left_over-requires : goal.left_over-requires
left_over-requires c = done_told working _ _ _ _ _ c.recover-number.ensures c.if-number-eq8.false c.if-number-ne0.false

pub returns : goal.returns
returns c =
    answer_sound working _ _ _ _ _ c.recover-number.ensures _ _ c.if-number-ne0.false c.tray_count.ensures c.left_over.ensures
