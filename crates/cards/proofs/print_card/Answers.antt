use Rattle.std.proofs.Common.{arith, ◌∙◌}
use Rattle.blocks.proofs.Room.{room_long}
use Rattle.symbol.proofs.Working.{working}
use Rattle.cards.proofs.Compare.{copied_of, copy_room}
use Rattle.cards.proofs.print_card.Goals as goal

pub copy-requires : goal.copy-requires
copy-requires c =
    let a = c.args in
    let long = c.right_multipliers.auto.found ∙ room_long in
    (omega arith, copy_room working a.l a.h a.p a.helpers.now c.requires.0 a.card.now _ c.requires.1 long)

pub returns : goal.returns
returns c = search (copied_of working)
