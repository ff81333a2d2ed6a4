-- Made by tools/twin.py from crates/cards/proofs/repair_by_card/Answers.antt.
use Rattle.symbol257.proofs.Working.{working}
use Rattle.cards.proofs.Repair.{repaired, repairing_of, rows, spare_there}
use Rattle.cards257.proofs.repair_by_card.Goals as goal

pub repair_block-requires : goal.repair_block-requires
repair_block-requires c = (search (repairing_of working), rows, search (spare_there working))

pub returns : goal.returns
returns c = search (repaired working)
