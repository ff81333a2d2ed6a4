-- Made by tools/twin.py from crates/batch_share/proofs/share_batch/Answers.antt.
use Rattle.symbol257.specs.Elem.{gf257}
use Rattle.batch_share.proofs.Batches.{answer_refused, answer_none, answer_told, answer_done}
use Rattle.batch_share257.proofs.share_batch.Goals as goal

pub returns-then-ground-ne0 : goal.returns-then-ground-ne0
returns-then-ground-ne0 c = search (answer_refused gf257)

pub returns-then-many-eq0 : goal.returns-then-many-eq0
returns-then-many-eq0 c = search (answer_none gf257)

pub gather-requires : goal.gather-requires
gather-requires c = search (answer_told gf257)

pub returns : goal.returns
returns c = search (answer_done gf257)
