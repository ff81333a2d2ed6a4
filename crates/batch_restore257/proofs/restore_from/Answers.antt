-- Made by tools/twin.py from crates/batch_restore/proofs/restore_from/Answers.antt.
use Rattle.std.proofs.Common.{rules}
use Rattle.symbol257.proofs.Working.{working}
use Rattle.batch_restore.proofs.Layers.{job_total, batch_restored, job_adm}
use Rattle.batch_restore257.proofs.restore_from.Goals as goal

pub layer_count-total-requires : goal.layer_count-total-requires
layer_count-total-requires c = search job_adm

pub all_layers-requires : goal.all_layers-requires
all_layers-requires c = (search job_total, search rules, search rules, search rules)

pub returns : goal.returns
returns c = search (batch_restored, working)
