-- Made by tools/twin.py from crates/batch_restore/proofs/layer/Answers.antt.
use Rattle.std.proofs.Common.{rules}
use Rattle.symbol257.specs.Elem.{gf257}
use Rattle.symbol257.proofs.Working.{working}
use Rattle.batch_restore.proofs.Layers.{job_trays, job_wide, job_column, job_gap_fits, job_first_fits, job_few, job_lists, layer_done}
use Rattle.batch_restore.proofs.Rows.{weights_padded}
use Rattle.batch_restore257.proofs.layer.Goals as goal

pub lanes-wide-requires : goal.lanes-wide-requires
lanes-wide-requires c = search job_few

pub factors-requires : goal.factors-requires
factors-requires c = (search job_lists, search rules, search rules)

pub overflow_mul-total : goal.overflow_mul-total
overflow_mul-total c = search job_gap_fits

pub overflow_mul-j : goal.overflow_mul-j
overflow_mul-j c = search job_first_fits

pub blocks-requires : goal.blocks-requires
blocks-requires c = (search job_trays, search job_wide, search job_column, search rules, search (weights_padded gf257))

pub returns : goal.returns
returns c = search (layer_done, working)
