use Rattle.image.proofs.Editions.{proper2}
use Rattle.image.proofs.WriteGrounds.{cabinet_so}
use Rattle.image.proofs.Forms.{formed_reads}
use Rattle.image.proofs.ReadGrounds.{read_1, read_2, read_9, read_formed}
use Rattle.image257.proofs.places_refusal.Goals as goal

pub returns-then-not-admitted : goal.returns-then-not-admitted
returns-then-not-admitted c = search read_1

pub layer_count-requires : goal.layer_count-requires
layer_count-requires c = search (cabinet_so, proper2)

pub returns-then-places-layer_count : goal.returns-then-places-layer_count
returns-then-places-layer_count c = search read_2

pub returns-then-not-well_formed : goal.returns-then-not-well_formed
returns-then-not-well_formed c = search read_9

pub formed_refusal-requires : goal.formed_refusal-requires
formed_refusal-requires c = search (formed_reads, proper2)

pub returns : goal.returns
returns c = search read_formed
