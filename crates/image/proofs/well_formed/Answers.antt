use Rattle.image.proofs.Editions.{proper1}
use Rattle.image.proofs.Forms.{formed_not, formed_long, formed_cabinet}
use Rattle.image.proofs.First.{held_room, held_tested}
use Rattle.image.proofs.well_formed.Goals as goal

pub returns-then-not-header_formed : goal.returns-then-not-header_formed
returns-then-not-header_formed c = search formed_not

pub own_layout-requires : goal.own_layout-requires
own_layout-requires c = search (formed_long, proper1)

pub layer_count-total-requires : goal.layer_count-total-requires
layer_count-total-requires c = search (formed_cabinet, proper1)

pub are_symbols-requires : goal.are_symbols-requires
are_symbols-requires c = search held_room

pub returns : goal.returns
returns c = search held_tested
