use Rattle.std.proofs.Common.{arith, ◌∙◌}
use Rattle.blocks.proofs.Room.{room_long}
use Rattle.symbol.proofs.Working.{working}
use Rattle.cards.proofs.Compare.{card_room, verdict_of}
use Rattle.cards.proofs.right_card.Goals as goal

pub alike-requires : goal.alike-requires
alike-requires c =
    let a = c.args in
    let m = c.right_multipliers in
    (omega arith, card_room working a.l a.h a.p a.helpers.now c.requires.0 a.card.now m.new.found c.requires.1 (m.auto.found ∙ room_long))

pub returns : goal.returns
returns c =
    let a = c.args in
    verdict_of working a.l a.h a.p a.helpers.now c.requires.0 a.card.now _ _ c.requires.1 c.requires.2
    c.right_multipliers.ensures c.alike.ensures
