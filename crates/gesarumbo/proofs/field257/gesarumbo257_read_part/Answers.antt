-- Made by tools/twin.py from crates/gesarumbo/proofs/field256/gesarumbo_read_part/Answers.antt.
-- Reading while repairing: the lent numbers of the trays are those that were given, the refusal is the one that was written, and where there is none the part lies where its
-- numbers say.
use Rattle.symbol257.specs.Elem.{gf257}
use Rattle.reading.proofs.Grounds.{facts}
use Rattle.gesarumbo.proofs.Shown.{part_refused, part_read}
use Rattle.gesarumbo.proofs.field257.gesarumbo257_read_part.Goals as goal

pub returns-then-refusal-ne0 : goal.returns-then-refusal-ne0
returns-then-refusal-ne0 c =
    let s = c.args in
    part_refused gf257.order s.l s.codeword.now s.spare.now s.lost s.done s.tray s.first s.end _ _ _ c.of.ensures c.of-2.ensures c.read_part-part.ensures.number
    c.if-refusal-ne0.true

pub layer_count-requires : goal.layer_count-requires
layer_count-requires c =
    let s = c.args in
    (facts gf257.order s.l s.codeword.now s.spare.now s.lost s.done s.tray s.first s.end _ _ _ c.of.ensures c.of-2.ensures c.read_part-part.ensures.number
    c.if-refusal-ne0.false).readable.adm

pub returns : goal.returns
returns c =
    let s = c.args in
    part_read gf257.order s.l s.codeword.now s.spare.now s.lost s.done s.tray s.first s.end _ _ _ c.of.ensures c.of-2.ensures c.read_part-part.ensures.number
    c.if-refusal-ne0.false _ c.read_part-part.ensures.part _ c.layer_count.ensures _ c.part_numbers.ensures
