use Rattle.symbol.proofs.Working.{working}
use Rattle.cards.proofs.Repair.{repaired, repairing_of, rows, spare_there}
use Rattle.cards.proofs.repair_by_card.Goals as goal

pub repair_block-requires : goal.repair_block-requires
repair_block-requires c = (search (repairing_of working), rows, search (spare_there working))

pub returns : goal.returns
returns c = search (repaired working)
