use Rattle.symbol.specs.Elem.{gf256}
use Rattle.batch_share.proofs.Batches.{answer_refused, answer_none, answer_told, answer_done}
use Rattle.batch_share.proofs.share_batch.Goals as goal

pub returns-then-ground-ne0 : goal.returns-then-ground-ne0
returns-then-ground-ne0 c = search (answer_refused gf256)

pub returns-then-many-eq0 : goal.returns-then-many-eq0
returns-then-many-eq0 c = search (answer_none gf256)

pub gather-requires : goal.gather-requires
gather-requires c = search (answer_told gf256)

pub returns : goal.returns
returns c = search (answer_done gf256)
