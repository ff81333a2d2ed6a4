-- Made by tools/twin.py from crates/cards/proofs/card_sum/Answers.antt.
use Rattle.symbol257.proofs.Working.{working}
use Rattle.cards.proofs.Repair.{part_all, part_more, part_none}
use Rattle.cards257.proofs.card_sum.Goals as goal

pub loop-k-init : goal.loop-k-init
loop-k-init c = part_none working _ _ _ _ _ _

pub loop-k-preserved : goal.loop-k-preserved
loop-k-preserved c =
    let a = c.args in
    part_more working a.card.now a.shares.now a.l.helpers _ a.p a.b c.loop-k.k _ _ _ _ _ _ _ c.loop-k.invariant
    c.cell.ensures c.at-m.ensures c.cell-in-loop-k.ensures c.at.ensures c.product.ensures c.difference-v.ensures

pub returns : goal.returns
returns c = search (part_all working)
