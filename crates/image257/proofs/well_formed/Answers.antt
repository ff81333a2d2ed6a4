use Rattle.image.specs.Image.{edition2}
use Rattle.image.proofs.Editions.{proper2}
use Rattle.image.proofs.Forms.{formed_not, formed_long, formed_cabinet, formed_room, formed_symbols}
use Rattle.image257.proofs.well_formed.Goals as goal

pub returns-then-not-header_formed : goal.returns-then-not-header_formed
returns-then-not-header_formed c = search formed_not

pub own_layout-requires : goal.own_layout-requires
own_layout-requires c = search (formed_long, proper2)

pub layer_count-total-requires : goal.layer_count-total-requires
layer_count-total-requires c = search (formed_cabinet, proper2)

pub symbols_held-requires : goal.symbols_held-requires
symbols_held-requires c = search (formed_room edition2, proper2)

pub returns : goal.returns
returns c = search (formed_symbols, proper2)
