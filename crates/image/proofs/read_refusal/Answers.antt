use Rattle.image.proofs.Editions.{proper1}
use Rattle.image.proofs.Forms.{formed_reads}
use Rattle.image.proofs.ReadGrounds.{read_1}
use Rattle.image.proofs.First.{part_9, part_formed}
use Rattle.image.proofs.read_refusal.Goals as goal

pub returns-then-not-admitted : goal.returns-then-not-admitted
returns-then-not-admitted c = search read_1

pub returns-then-not-well_formed : goal.returns-then-not-well_formed
returns-then-not-well_formed c = search part_9

pub formed_refusal-requires : goal.formed_refusal-requires
formed_refusal-requires c = search (formed_reads, proper1)

pub returns : goal.returns
returns c = search part_formed
