-- Made by tools/twin.py from crates/reading/proofs/is_available/Answers.antt.
use Rattle.reading.proofs.Ranges.{asked, from_store, from_spare}
use Rattle.reading257.proofs.is_available.Goals as goal

pub returns-then-tray-lost : goal.returns-then-tray-lost
returns-then-tray-lost c = search from_store

pub all_done-requires : goal.all_done-requires
all_done-requires c = search asked

pub returns : goal.returns
returns c = search from_spare
