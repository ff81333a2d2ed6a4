use Rattle.batch_restore.proofs.Rows.{put_none, put_more, put_end, put_in, put_from}
use Rattle.batch_restore.proofs.put_rows.Goals as goal

pub loop-o-init : goal.loop-o-init
loop-o-init c = put_none _ _ _ _ _ _

pub copy-requires : goal.copy-requires
copy-requires c = (search put_in, search put_from)

pub loop-o-preserved : goal.loop-o-preserved
loop-o-preserved c = search put_more

pub returns : goal.returns
returns c = search put_end
