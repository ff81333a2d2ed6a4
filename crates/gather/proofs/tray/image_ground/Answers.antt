use Rattle.image.proofs.Editions.{proper1}
use Rattle.gather.proofs.Taking.{ground_refused, own_in, ground_other, ground_none}
use Rattle.gather.proofs.tray.image_ground.Goals as goal

pub returns-then-number-ne0 : goal.returns-then-number-ne0
returns-then-number-ne0 c = search ground_refused

pub byte_at-requires : goal.byte_at-requires
byte_at-requires c = search (own_in, proper1)

pub returns-then-byte_at-x : goal.returns-then-byte_at-x
returns-then-byte_at-x c = search ground_other

pub returns : goal.returns
returns c = search ground_none
