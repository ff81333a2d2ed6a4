use Rattle.image.proofs.Editions.{proper2}
use Rattle.image.proofs.WriteGrounds.{cabinet_so}
use Rattle.image.proofs.ReadGrounds.{read_1}
use Rattle.image257.proofs.read_refusal.Goals as goal

pub returns-then-not-admitted : goal.returns-then-not-admitted
returns-then-not-admitted c = search read_1

pub layer_count-requires : goal.layer_count-requires
layer_count-requires c = search (cabinet_so, proper2)
