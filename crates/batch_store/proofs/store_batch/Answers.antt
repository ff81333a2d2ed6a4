use Rattle.symbol.proofs.Working.{working}
use Rattle.batch_store.proofs.Answers.{answer_refused, answer_done, data_fits, writable}
use Rattle.batch_store.proofs.store_batch.Goals as goal

pub returns-then-ground-ne0 : goal.returns-then-ground-ne0
returns-then-ground-ne0 c = search (answer_refused working)

pub put_data-requires : goal.put_data-requires
put_data-requires c = search (data_fits working)

pub parity-requires : goal.parity-requires
parity-requires c = search (writable working)

pub returns : goal.returns
returns c = search (answer_done working)
